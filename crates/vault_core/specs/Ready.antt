-- Output that is ready to be written.
use Rattle.std.specs.Prelude.{ℕ, List}
use Rattle.vault_core.specs.Form.{form_of}
use Rattle.vault_core.specs.Sealing.{text_in}
use Rattle.vault_core.specs.declared.ready.Output.{Output}
use Rattle.vault_core.specs.declared.ready.Output.TheVariants.{Plain, Vault}

-- the bytes to write, and the position in the tried order, counted from 1, of the secret that
-- matched; 0 if none was tried
pub record Ready : Type 0 where
  pub output : List ℕ
  pub tried : ℕ

-- plaintext as it is, or a vault in its form
abbrev pub output_bytes : Output → List ℕ
output_bytes (Plain plain) = plain.now
output_bytes (Vault vault form) = text_in (form_of form) vault
