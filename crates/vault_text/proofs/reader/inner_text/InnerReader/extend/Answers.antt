use Rattle.std.proofs.Common.{arith, rules, tests}
use Rattle.std.proofs.lemmas.List.{nil_from_length}
use Rattle.vault_text.specs.EnvelopeReader.{InnerHas}
use Rattle.vault_text.proofs.PiecesLemmas.{TakesPiece-whole, TakesUpTo-more}
use Rattle.vault_text.proofs.reader.inner_text.InnerReader.extend.Goals as goal

pub loop-rest-preserved : goal.loop-rest-preserved
loop-rest-preserved c = (
  omega (arith, c.loop-rest.invariant.0, c.extend_part-rest.ensures.shorter),
  λ limit. TakesUpTo-more (InnerHas limit) _ _ _ _ _ _ (c.loop-rest.invariant.1 limit)
      (c.extend_part-rest.ensures.taken limit),
)

pub returns : goal.returns
returns c limit =
    let nothing = nil_from_length c.loop-rest.rest.now (search (rules, tests)) in
    TakesPiece-whole (InnerHas limit) _ _ c.args.text.now
    (rw nothing at (c.loop-rest.invariant.1 limit))
