-- What was sealed unseals to its plaintext.
use Rattle.std.proofs.Common.{◌≡◌, ℕ, true, List, Some, refl, ap, ◌∙◌}
use Rattle.std.specs.Str.{bytes_eq}
use Rattle.std.proofs.lemmas.Slice.Eq.{bytes_eq-Decides}
use Rattle.vault_aes.proofs.CounterModeLemmas.{counter_mode-counter_mode}
use Rattle.vault_aes.proofs.PaddingLemmas.{without_padding-padded}
use Rattle.vault_text.specs.Envelope.{Payload}
use Rattle.vault_core.specs.TriedSecrets.{matches}
use Rattle.vault_core.specs.Laws.{SealedUnseals}
use Rattle.vault_core.specs.Unsealing.{plaintext_of, unsealing}
use Rattle.vault_aes.specs.Padding.{padded, without_padding}
use Rattle.vault_core.specs.Sealing.{sealed}
use Rattle.vault_core.specs.Secrets.{Secret}
use Rattle.vault_core.proofs.TriedSecretsLemmas.{tries-cons_yes}

-- bytes are equal to themselves
pub bytes_eq-same : (xs : List ℕ) → bytes_eq xs xs ≡ true
bytes_eq-same xs = (bytes_eq-Decides xs xs).1 refl

module _ (sealing : Secret) (salt plain : List ℕ) where
  abbrev vault : Payload
  vault = sealed sealing salt plain

  matches-sealed : (secret : Secret) → secret.password ≡ sealing.password
      → matches vault secret ≡ true
  unfolding matches sealed
  matches-sealed secret same = rw same (bytes_eq-same vault.tag)

  plain-sealed : (secret : Secret) → secret.password ≡ sealing.password
      → plaintext_of vault secret ≡ Some plain
  unfolding sealed
  plain-sealed secret same =
      rw same (ap without_padding (counter_mode-counter_mode _ _ (padded plain))
      ∙ without_padding-padded plain (padded plain) refl)

pub sealed_unseals : SealedUnseals
unfolding unsealing sealed
sealed_unseals secrets sealing salt plain tried =
    let first = tried.0 in
    let matched = matches-sealed sealing salt plain first tried.3 in
    let once = tries-cons_yes (sealed sealing salt plain) first tried.1 matched in
    rw (tried.2, matched, plain-sealed sealing salt plain first tried.3, once) refl
