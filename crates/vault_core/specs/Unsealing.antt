-- What an envelope contains for those who have its password.
use Rattle.std.specs.Prelude.{ℕ, List, find, Option, Result, Ok}
use Rattle.std.specs.Option.{ok_or}
use Rattle.vault_aes.specs.CounterMode.{counter_mode}
use Rattle.vault_aes.specs.KeyExpansion.{key_schedule}
use Rattle.vault_kdf.specs.declared.keys.Keys.{Keys}
use Rattle.vault_text.specs.Envelope.{Payload}
use Rattle.vault_text.specs.Steps.{◌>>=◌}
use Rattle.vault_core.specs.TriedSecrets.{matches, keys_of, tries}
use Rattle.vault_aes.specs.Padding.{without_padding}
use Rattle.vault_core.specs.Ready.{Ready}
use Rattle.vault_core.specs.Secrets.{Secret, SecretList, tried_order}
use Rattle.vault_fault.specs.declared.fault.Fault.{Fault}
use Rattle.vault_fault.specs.declared.fault.Fault.TheVariants.{NoSecretFits, BadPadding}

-- the deciphered ciphertext (SP 800-38A, section 6.5): the plaintext with its padding
abbrev pub deciphered_by : Keys → List ℕ → List ℕ
deciphered_by keys ciphertext = counter_mode (key_schedule keys.cipher) keys.iv ciphertext

-- the plaintext under the secret's keys; none if its padding is wrong
abbrev pub plaintext_of : Payload → Secret → Option (List ℕ)
plaintext_of payload secret =
    without_padding (deciphered_by (keys_of payload secret) payload.ciphertext)

-- the plaintext under the first secret in the tried order that matches; if its padding is wrong, no
-- other secret is tried
unfoldable pub unsealing : SecretList → Payload → Result Ready Fault
unsealing secrets payload =
    let order = tried_order secrets payload.label in do
      secret ← ok_or (find (matches payload) order) NoSecretFits
      plain ← ok_or (plaintext_of payload secret) BadPadding
      Ok (record { output = plain; tried = tries payload order })
