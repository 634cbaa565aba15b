use Rattle.std.proofs.Common.{ap, refl}
use Rattle.std.proofs.lemmas.Bool.{eq-eqb, ne_eqb}
use Rattle.std.specs.Option.{option_copied}
use Rattle.vault_core.proofs.ChoiceLemmas.{chosen_index-is}
use Rattle.vault_core.proofs.choice.chosen_index.Goals as goal

pub returns-then-is_empty : goal.returns-then-is_empty
returns-then-is_empty c = rw (chosen_index-is, ← c.if-is_empty.ensures) refl

pub returns-in-Some : goal.returns-in-Some
returns-in-Some c =
    let label = ap option_copied c.in-Some.is in
    rw (c.ok_or.ensures.value, c.index_of.ensures, chosen_index-is, ← c.if-is_empty.ensures, label)
    refl

pub returns-in-None : goal.returns-in-None
returns-in-None c =
    let one = eq-eqb _ _ c.if-secrets-eq1.true in
    rw (chosen_index-is, ← c.if-is_empty.ensures, ap option_copied c.in-None.is, one) refl

pub returns-in-None-2 : goal.returns-in-None-2
returns-in-None-2 c =
    let many = ne_eqb _ _ c.if-secrets-eq1.false in
    rw (chosen_index-is, ← c.if-is_empty.ensures, ap option_copied c.in-None.is, many) refl
