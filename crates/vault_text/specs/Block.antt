-- The block of a vault in YAML: a literal block scalar with the tag `!vault`, whose text is the
-- envelope.
use Rattle.std.specs.Prelude.{ℕ, ◌==◌, if◌then◌else◌, List, [], ◌∷◌, ◌++◌, length, replicate}
use Rattle.std.specs.Prelude.{codes, Option, unwrap_or}
use Rattle.vault_text.specs.Written.{text_of_lines, written_lines}

-- the name of a variable and a colon; nothing if the name is empty
abbrev pub key_of : List ℕ → List ℕ
key_of name = if length name == 0 then [] else name ++ codes ": "

-- the first line, with its end
abbrev pub first_line : List ℕ → List ℕ
first_line name = key_of name ++ codes "!vault |" ++ 10 ∷ []

-- the indentation of each line of the envelope: ten spaces
abbrev pub block_indentation : List ℕ
block_indentation = replicate 10 32

-- the first line, which names the variable if there is a name, and the indented lines of the
-- envelope
unfoldable pub block : Option (List ℕ) → List ℕ → List ℕ → List ℕ → List ℕ → List ℕ
block name label salt tag ciphertext =
    first_line (unwrap_or name [])
    ++ text_of_lines block_indentation (written_lines label salt tag ciphertext)
