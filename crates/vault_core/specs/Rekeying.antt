-- What `rekey` returns.
use Rattle.std.specs.Prelude.{ℕ, if◌then◌else◌, List, Result, Ok, Err}
use Rattle.vault_text.specs.Envelope.{Payload}
use Rattle.vault_text.specs.Steps.{◌>>=◌}
use Rattle.vault_core.specs.Decryption.{payload_of}
use Rattle.vault_core.specs.Encryption.{is_vault}
use Rattle.vault_core.specs.Form.{Envelope}
use Rattle.vault_core.specs.Unsealing.{unsealing}
use Rattle.vault_core.specs.Ready.{Ready}
use Rattle.vault_core.specs.Sealing.{sealed, text_in}
use Rattle.vault_core.specs.Secrets.{Secret, SecretList}
use Rattle.vault_fault.specs.declared.fault.Fault.{Fault}
use Rattle.vault_fault.specs.declared.fault.Fault.TheVariants.{AlreadyVault}

-- the plaintext of the payload in an envelope under the new secret and the new salt, or the first
-- fault
unfoldable pub rekeying_of_payload : SecretList → Secret → List ℕ → Payload → Result Ready Fault
rekeying_of_payload secrets new salt payload = do
  unsealed ← unsealing secrets payload
  if is_vault unsealed.output then Err AlreadyVault
      else Ok (record {
        output = text_in Envelope (sealed new salt unsealed.output);
        tried = unsealed.tried;
      })

-- the envelope in the input, its plaintext sealed under the new secret, or the first fault
unfoldable pub rekeying : ℕ → SecretList → Secret → List ℕ → List ℕ → Result Ready Fault
rekeying limit secrets new salt input = do
  payload ← payload_of limit input
  rekeying_of_payload secrets new salt payload
