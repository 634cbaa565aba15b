-- Memory for a text while it is read and processed.
use Rattle.std.specs.Prelude.{◌≡◌, ℕ, ◌≤◌, List, length, take, vec_capacity}
use Rattle.vault_text.specs.declared.text_memory.Place.{Place}
use Rattle.vault_text.specs.declared.text_memory.Place.TheVariants.{Borrowed, Reserved}

-- the text so far, and how many bytes it may have
pub record TextMemoryState : Type 0 where
  pub bytes : List ℕ
  pub limit : ℕ

-- the text
abbrev pub bytes_of : Place → List ℕ
bytes_of (Borrowed memory filled) = take filled memory.now
bytes_of (Reserved memory) = memory.now.items

-- the text may grow in place to this many bytes
abbrev pub HasRoom : Place → ℕ → Type 0
HasRoom (Borrowed memory filled) limit = (limit ≡ length memory.now) × (filled ≤ limit)
HasRoom (Reserved memory) limit =
    (limit ≤ vec_capacity memory.now) × (length memory.now.items ≤ limit)
