-- `-` in place of a file or a STRING.
use Rattle.std.specs.Prelude.{ℕ, if◌then◌else◌, List, codes, Option, Some, None}
use Rattle.std.specs.Str.{bytes_eq}

-- None if the word is `-`, which stands for a standard stream
abbrev pub unless_dash : Option (List ℕ) → Option (List ℕ)
unless_dash None = None
unless_dash (Some word) = if bytes_eq word (codes "-") then None else Some word
