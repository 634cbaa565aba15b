-- The answers of rekeying: an envelope of what the input decrypts to, or a fault.
use Rattle.std.proofs.Common.{◌≡◌, ◌≢◌, ℕ, List, Result, Ok, Err, sym, refl, ◌∙◌}
use Rattle.vault_text.specs.Envelope.{Payload}
use Rattle.vault_text.specs.Steps.{◌>>=◌}
use Rattle.vault_text.proofs.EnvelopeLemmas.{HasFittingCiphertext}
use Rattle.vault_core.specs.Decryption.{decryption}
use Rattle.vault_core.specs.Decryption.{payload_of}
use Rattle.vault_core.specs.Encryption.{is_vault}
use Rattle.vault_core.specs.Form.{Envelope}
use Rattle.vault_core.specs.Ready.{Ready}
use Rattle.vault_core.specs.Rekeying.{rekeying, rekeying_of_payload}
use Rattle.vault_core.specs.Sealing.{sealed, text_in}
use Rattle.vault_core.specs.Secrets.{Secret, SecretList}
use Rattle.vault_fault.specs.declared.fault.Fault.{Fault}
use Rattle.vault_fault.specs.declared.fault.Fault.TheVariants.{AlreadyVault, Read}
use Rattle.vault_fault.specs.declared.fault.Role.TheVariants.{Input}
use Rattle.vault_core.proofs.DecryptionLemmas.{decryption-of, payload_of-answers}
use Rattle.vault_core.proofs.InputLemmas.{HasAnswered, HasAnswered-is_no_read, HasAnswered-steps}
use Rattle.vault_core.proofs.InputLemmas.{HasAnswered-unless}
use Rattle.vault_core.proofs.UnsealingLemmas.{FitsAgain, unsealing-answers}

module _ (limit : ℕ) (secrets : SecretList) (new : Secret) (salt input : List ℕ) where
  -- what it decrypts to, which fits again, is sealed
  abbrev pub IsRekeyed : Ready → Type 0
  IsRekeyed ready =
      (unsealed : Ready) × (decryption limit secrets input ≡ Ok unsealed)
      × FitsAgain limit unsealed.output
      × (ready ≡ record {
        output = text_in Envelope (sealed new salt unsealed.output);
        tried = unsealed.tried;
      })

  pub rekeying-answers : HasAnswered (rekeying limit secrets new salt input) IsRekeyed
  unfolding rekeying rekeying_of_payload
  rekeying-answers =
      HasAnswered-steps _ _ (HasFittingCiphertext limit) IsRekeyed (payload_of-answers limit input)
      (λ payload read fits.
      HasAnswered-steps _ _ (λ (unsealed : Ready). FitsAgain limit unsealed.output) IsRekeyed
      (unsealing-answers limit secrets payload fits) (λ unsealed found again.
      HasAnswered-unless (is_vault unsealed.output) AlreadyVault _ IsRekeyed (λ read. cc) (λ _.
      (unsealed, decryption-of limit secrets input _ (sym read) ∙ found, again, refl))))

  pub rekeying-is_no_read : rekeying limit secrets new salt input ≢ Err (Read Input)
  rekeying-is_no_read =
      HasAnswered-is_no_read _ (rekeying limit secrets new salt input) rekeying-answers

  pub rekeying-of : (read : Result Payload Fault) → read ≡ payload_of limit input
      → rekeying limit secrets new salt input ≡ (read >>= rekeying_of_payload secrets new salt)
  unfolding rekeying
  rekeying-of read is = rw is refl
