use Rattle.std.proofs.Common.{rules, tests}
use Rattle.std.proofs.lemmas.List.{nil_from_length}
use Rattle.vault_text.specs.Envelope.{without_line_ends}
use Rattle.vault_text.specs.EnvelopeReader.{BodyHas}
use Rattle.vault_text.proofs.PiecesLemmas.{TakesPiece-whole, TakesUpTo-more}
use Rattle.vault_text.proofs.reader.body.BodyReader.extend.Goals as goal

pub loop-rest-preserved : goal.loop-rest-preserved
loop-rest-preserved c limit =
    TakesUpTo-more (BodyHas limit) _ _ _ _ _ _ (c.loop-rest.invariant limit)
    (c.extend_chunk-rest.ensures.taken limit)

pub returns : goal.returns
returns c limit =
    let nothing = nil_from_length c.loop-rest.rest.now (search (rules, tests)) in
    TakesPiece-whole (BodyHas limit) _ _ (without_line_ends c.args.text.now)
    (rw nothing at (c.loop-rest.invariant limit))
