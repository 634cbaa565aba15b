-- Which secrets match an envelope.
use Rattle.std.specs.Prelude.{ℕ, ◌+◌, Bool, List, length}
use Rattle.std.specs.List.{position}
use Rattle.std.specs.Option.{option_map_or}
use Rattle.std.specs.Str.{bytes_eq}
use Rattle.vault_kdf.specs.Hmac.{hmac}
use Rattle.vault_kdf.specs.Keys.{vault_keys}
use Rattle.vault_kdf.specs.declared.keys.Keys.{Keys}
use Rattle.vault_text.specs.Envelope.{Payload}
use Rattle.vault_core.specs.Secrets.{Secret}

-- the keys derived from the secret's password and the envelope's salt
abbrev pub keys_of : Payload → Secret → Keys
keys_of payload secret = vault_keys secret.password payload.salt

-- the ciphertext's tag under the secret's keys equals the envelope's tag in all bytes
unfoldable pub matches : Payload → Secret → Bool
matches payload secret = bytes_eq (hmac (keys_of payload secret).mac payload.ciphertext) payload.tag

-- how many of these secrets are tried, in order: up to the first that matches, or all of them
unfoldable pub tries : Payload → List Secret → ℕ
tries payload order =
    option_map_or (λ index. index + 1) (position (matches payload) order) (length order)
