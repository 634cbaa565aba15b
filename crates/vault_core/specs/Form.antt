-- The form in which a vault is written.
use Rattle.std.specs.Prelude.{ℕ, Bool, true, false, List, Option}
use Rattle.std.specs.Option.{option_copied}
use Rattle.vault_core.specs.declared.ready.Form as rust
use Rattle.vault_core.specs.declared.ready.Form.TheVariants as variant

-- an envelope, or a YAML block, which may have a name
pub data Form : Type 0 where
  Envelope : Form
  Block : Option (List ℕ) → Form

-- the form that a value of the Rust type stands for
abbrev pub form_of : rust.Form → Form
form_of variant.Envelope = Envelope
form_of (variant.Block name) = Block (option_copied name)

-- whether a block is written
abbrev pub is_block : Form → Bool
is_block Envelope = false
is_block (Block name) = true
