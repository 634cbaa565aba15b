-- The answers of decrypting, by what is read.
use Rattle.std.proofs.Common.{◌≡◌, ◌≢◌, ℕ, List, Result, Ok, Err, refl}
use Rattle.std.specs.Prelude.{IfOk}
use Rattle.std.specs.Result.{result_map_both}
use Rattle.vault_text.specs.Envelope.{Payload, read_within}
use Rattle.vault_text.specs.Steps.{◌>>=◌}
use Rattle.vault_text.specs.declared.fault.TextFault.{TextFault}
use Rattle.vault_text.specs.declared.fault.TextFault.TheVariants as text
use Rattle.vault_text.proofs.EnvelopeLemmas.{HasFittingCiphertext, read_within-fits}
use Rattle.vault_core.specs.Decryption.{decryption, decryption_derivations, derivations_on}
use Rattle.vault_core.specs.Decryption.{payload_of}
use Rattle.vault_fault.specs.Fault.{of_text}
use Rattle.vault_core.specs.Unsealing.{unsealing}
use Rattle.vault_core.specs.Secrets.{SecretList}
use Rattle.vault_fault.specs.declared.fault.Fault.{Fault}
use Rattle.vault_fault.specs.declared.fault.Fault.TheVariants.{Read}
use Rattle.vault_fault.specs.declared.fault.Role.TheVariants.{Input}
use Rattle.vault_core.proofs.InputLemmas.{HasAnswered, HasAnswered-is_no_read, HasAnswered-steps}
use Rattle.vault_core.proofs.UnsealingLemmas.{FitsAgain, unsealing-answers}

-- no fault of an envelope is one of reading
of_text-is_no_read : (fault : TextFault) → of_text fault ≢ Read Input
of_text-is_no_read text.TooLong h = cc
of_text-is_no_read text.NotVault h = cc
of_text-is_no_read text.HeaderTooLong h = cc
of_text-is_no_read text.BadHeader h = cc
of_text-is_no_read text.BadVersion h = cc
of_text-is_no_read text.BadCipher h = cc
of_text-is_no_read text.BadHex h = cc
of_text-is_no_read text.BadPayload h = cc
of_text-is_no_read text.CipherTooLong h = cc

pub payload_of-answers : (limit : ℕ) (input : List ℕ)
    → HasAnswered (payload_of limit input) (HasFittingCiphertext limit)
payload_of-answers limit input = by_read (read_within limit input) (read_within-fits limit input)
  where
    by_read : (read : Result Payload TextFault) → IfOk read (HasFittingCiphertext limit)
        → HasAnswered (result_map_both (λ payload. payload) of_text read)
        (HasFittingCiphertext limit)
    by_read (Ok payload) fits = fits
    by_read (Err fault) fits = of_text-is_no_read fault

module _ (limit : ℕ) (secrets : SecretList) (input : List ℕ) where
  pub decryption-answers :
      HasAnswered (decryption limit secrets input) (λ ready. FitsAgain limit ready.output)
  unfolding decryption
  decryption-answers =
      HasAnswered-steps _ _ (HasFittingCiphertext limit) (λ ready. FitsAgain limit ready.output)
      (payload_of-answers limit input) (λ payload _. unsealing-answers limit secrets payload)

  module _ (read : Result Payload Fault) (is : read ≡ payload_of limit input) where
    pub decryption-of : decryption limit secrets input ≡ (read >>= unsealing secrets)
    unfolding decryption
    decryption-of = rw is refl

    pub derivations-of : decryption_derivations limit secrets input ≡ derivations_on secrets read
    unfolding decryption_derivations
    derivations-of = rw is refl

  pub decryption-is_no_read : decryption limit secrets input ≢ Err (Read Input)
  decryption-is_no_read =
      HasAnswered-is_no_read _ (decryption limit secrets input) decryption-answers
