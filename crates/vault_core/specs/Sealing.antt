-- Making a vault: a plaintext under a secret (Ansible Vault guide, payload formats 1.1 and 1.2).
use Rattle.std.specs.Prelude.{ℕ, List, Result, Ok, Err}
use Rattle.vault_aes.specs.CounterMode.{counter_mode}
use Rattle.vault_aes.specs.KeyExpansion.{key_schedule}
use Rattle.vault_kdf.specs.Hmac.{hmac}
use Rattle.vault_kdf.specs.Keys.{vault_keys}
use Rattle.vault_kdf.specs.declared.keys.Keys.{Keys}
use Rattle.vault_text.specs.Block.{block}
use Rattle.vault_text.specs.Envelope.{Payload}
use Rattle.vault_text.specs.Written.{written}
use Rattle.vault_core.specs.Form.{Form, Envelope, Block}
use Rattle.vault_aes.specs.Padding.{padded}
use Rattle.vault_core.specs.Secrets.{Secret}
use Rattle.vault_fault.specs.declared.fault.Fault.{Fault}

-- the plaintext, padded (RFC 5652, section 6.3) and enciphered (SP 800-38A, section 6.5)
abbrev pub enciphered_by : Keys → List ℕ → List ℕ
enciphered_by keys plain = counter_mode (key_schedule keys.cipher) keys.iv (padded plain)

-- the plaintext's ciphertext under the keys derived from the secret's password and the salt, with
-- the tag of the ciphertext, the salt and the secret's label
unfoldable pub sealed : Secret → List ℕ → List ℕ → Payload
sealed secret salt plain =
    let keys = vault_keys secret.password salt in
    let ciphertext = enciphered_by keys plain in
    record {
      label = secret.label;
      salt = salt;
      tag = hmac keys.mac ciphertext;
      ciphertext = ciphertext;
    }

-- the vault as it is written
unfoldable pub text_in : Form → Payload → List ℕ
text_in Envelope vault = written vault.label vault.salt vault.tag vault.ciphertext
text_in (Block name) vault = block name vault.label vault.salt vault.tag vault.ciphertext

-- how many times keys are derived to seal: once, or never if the result is a fault
abbrev pub sealing_derivations : {T : Type 0} → Result T Fault → ℕ
sealing_derivations (Ok x) = 1
sealing_derivations (Err fault) = 0
