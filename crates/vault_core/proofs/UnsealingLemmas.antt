-- What unsealing an envelope returns: a plaintext of bytes, which with its padding is as long as
-- the ciphertext, or a fault.
use Rattle.std.proofs.Common.{◌≡◌, ℕ, ◌≤◌, List, length, Some, ap, arith}
use Rattle.std.specs.Prelude.{find}
use Rattle.vault_aes.specs.KeyExpansion.{key_schedule}
use Rattle.vault_aes.specs.Padding.{padded_length}
use Rattle.vault_aes.proofs.CounterModeLemmas.{length-counter_mode}
use Rattle.vault_aes.proofs.PaddingLemmas.{length-padded, padded-without_padding, take-padded}
use Rattle.vault_kdf.specs.declared.keys.Keys.{Keys}
use Rattle.vault_text.specs.Envelope.{Payload}
use Rattle.vault_text.specs.Limits.{ciphertext_limit}
use Rattle.vault_text.proofs.EnvelopeLemmas.{HasFittingCiphertext}
use Rattle.vault_core.specs.TriedSecrets.{matches, keys_of}
use Rattle.vault_core.specs.Laws.{IsBytes}
use Rattle.vault_core.specs.Unsealing.{deciphered_by, unsealing, plaintext_of}
use Rattle.vault_core.specs.Ready.{Ready}
use Rattle.vault_core.specs.Secrets.{Secret, SecretList, tried_order}
use Rattle.vault_fault.specs.declared.fault.Fault.TheVariants.{NoSecretFits, BadPadding}
use Rattle.vault_core.proofs.InputLemmas.{HasAnswered, HasAnswered-ok_or, HasAnswered-steps}
use Rattle.vault_core.proofs.SealingByteLemmas.{counter_mode-bytes, take-bytes}

-- the plaintext fits under its limit again
pub record FitsAgain (limit : ℕ) (plain : List ℕ) : Type 0 where
  pub bytes : IsBytes plain
  pub fits : padded_length (length plain) ≤ ciphertext_limit limit

-- what comes before the padding of deciphered bytes
FitsAgain-plain : (limit : ℕ) (payload : Payload) (secret : Secret) (plain : List ℕ)
    → HasFittingCiphertext limit payload
    → plaintext_of payload secret ≡ Some plain → FitsAgain limit plain
FitsAgain-plain limit payload secret plain ciphertext found =
    let keys : Keys = keys_of payload secret in
    let text : List ℕ = deciphered_by keys payload.ciphertext in
    let padding = padded-without_padding plain text found in
    let deciphered =
    counter_mode-bytes (key_schedule keys.cipher) keys.iv payload.ciphertext ciphertext.bytes in
    record {
      bytes =
          rw (rw padding at (take-padded plain)) at (take-bytes (length plain) text deciphered);
      fits = omega (arith, ap length padding, length-padded plain, length-counter_mode);
    }

pub unsealing-answers : (limit : ℕ) (secrets : SecretList) (payload : Payload)
    → HasFittingCiphertext limit payload
    → HasAnswered (unsealing secrets payload) (λ ready. FitsAgain limit ready.output)
unfolding unsealing
unsealing-answers limit secrets payload ciphertext =
    let Fits : Ready → Type 0 = λ ready. FitsAgain limit ready.output in
    let found = find (matches payload) (tried_order secrets payload.label) in
    HasAnswered-steps _ _ (λ secret. found ≡ Some secret) Fits
    (HasAnswered-ok_or found NoSecretFits (λ read. cc)) (λ secret _ _.
    HasAnswered-steps _ _ (λ plain. plaintext_of payload secret ≡ Some plain) Fits
    (HasAnswered-ok_or (plaintext_of payload secret) BadPadding (λ read. cc)) (λ plain _ some.
    FitsAgain-plain limit payload secret plain ciphertext some))
