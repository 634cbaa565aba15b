-- What `decrypt` and `view` return.
use Rattle.std.specs.Prelude.{ℕ, List, Result, Ok, Err}
use Rattle.std.specs.Result.{result_map_both}
use Rattle.vault_text.specs.Envelope.{Payload, read_within}
use Rattle.vault_text.specs.Steps.{◌>>=◌}
use Rattle.vault_core.specs.TriedSecrets.{tries}
use Rattle.vault_fault.specs.Fault.{of_text}
use Rattle.vault_core.specs.Unsealing.{unsealing}
use Rattle.vault_core.specs.Ready.{Ready}
use Rattle.vault_core.specs.Secrets.{SecretList, tried_order}
use Rattle.vault_fault.specs.declared.fault.Fault.{Fault}

-- the payload of the input, or the fault that refuses it
abbrev pub payload_of : ℕ → List ℕ → Result Payload Fault
payload_of limit input = result_map_both (λ payload. payload) of_text (read_within limit input)

-- the plaintext of the input, or the first fault
unfoldable pub decryption : ℕ → SecretList → List ℕ → Result Ready Fault
decryption limit secrets input = do
  payload ← payload_of limit input
  unsealing secrets payload

-- how many times keys are derived for a payload: once for each secret that is tried
abbrev pub derivations_on : SecretList → Result Payload Fault → ℕ
derivations_on secrets (Ok payload) = tries payload (tried_order secrets payload.label)
derivations_on secrets (Err fault) = 0

-- how many times keys are derived to decrypt the input: never if it has no payload
unfoldable pub decryption_derivations : ℕ → SecretList → List ℕ → ℕ
decryption_derivations limit secrets input = derivations_on secrets (payload_of limit input)
