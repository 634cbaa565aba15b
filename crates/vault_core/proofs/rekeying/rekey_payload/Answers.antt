use Rattle.std.proofs.Common.{ap, refl, sym, ◌∙◌}
use Rattle.std.proofs.lemmas.Result.{err_from_is_err_and}
use Rattle.vault_core.specs.Encryption.{is_vault}
use Rattle.vault_core.specs.Ready.{Ready}
use Rattle.vault_core.specs.Rekeying.{rekeying_of_payload}
use Rattle.vault_core.proofs.rekeying.rekey_payload.Goals as goal

pub returns-in_err-padded-clause-answer : goal.returns-in_err-padded-clause-answer
unfolding rekeying_of_payload
returns-in_err-padded-clause-answer c =
    let p = err_from_is_err_and c.from_residual.result c.from_residual.ensures.1 in
    rw (p.1, p.2, ← c.in_err-padded.ensures.unsealed) refl

pub returns-then-is_vault-clause-answer : goal.returns-then-is_vault-clause-answer
unfolding rekeying_of_payload
returns-then-is_vault-clause-answer c =
    let marked = ap (λ (unsealed : Ready). is_vault unsealed.output) (sym c.padded.view_is)
    ∙ sym c.if-is_vault.ensures in
    rw (← c.in_ok-padded.ensures.unsealed, marked) refl

pub returns-clause-answer : goal.returns-clause-answer
unfolding rekeying_of_payload
returns-clause-answer c =
    let plain = ap (λ (unsealed : Ready). is_vault unsealed.output) (sym c.padded.view_is)
    ∙ sym c.if-is_vault.ensures in
    rw (← c.in_ok-padded.ensures.unsealed, plain, c.seal-vault.ensures.sealed)
    (rw (← c.padded.view_is) refl)
