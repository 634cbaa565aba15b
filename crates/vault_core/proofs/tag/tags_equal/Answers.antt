use Rattle.std.proofs.Common.{arith, eqb-true, refl, take_all}
use Rattle.std.proofs.lemmas.Bool.{eq-eqb}
use Rattle.vault_core.proofs.TriedSecretsLemmas.{carries_more_over}
use Rattle.vault_core.proofs.tag.tags_equal.Goals as goal

pub loop-i-init : goal.loop-i-init
loop-i-init c = (λ _. refl, λ _. refl)

pub loop-i-preserved : goal.loop-i-preserved
loop-i-preserved c =
    carries_more_over c.args.one.now c.args.other.now c.loop-i.i c.loop-i.differences (omega arith)
    (omega arith) c.loop-i.invariant

pub returns : goal.returns
returns c =
    let one = take_all c.loop-i.i c.args.one.now (omega arith) in
    let other = take_all c.loop-i.i c.args.other.now (omega arith) in
    let whole = rw (one, other) at c.loop-i.invariant in
    (λ none. whole.0 (eqb-true _ _ none), λ same. eq-eqb _ _ (whole.1 same))
