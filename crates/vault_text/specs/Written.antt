-- The envelope of a vault as it is written (Ansible Vault guide, payload formats 1.1 and 1.2): a
-- header line, and the digits of the inner text in lines of 80.
use Rattle.std.specs.Prelude.{ℕ, ◌+◌, ◌-◌, ◌*◌, ◌/◌, if◌then◌else◌, List, [], ◌∷◌, ◌++◌, length}
use Rattle.std.specs.Prelude.{map, min, slice_range, codes}
use Rattle.std.specs.List.{flat_map, join_with_byte, range_with_len}
use Rattle.std.specs.Str.{bytes_eq}
use Rattle.hex.specs.Hex.{encode_lower}
use Rattle.vault_text.specs.Label.{default_label}

-- format 1.1 for the label `default`, and format 1.2 for any other label, which it names
unfoldable pub written_header : List ℕ → List ℕ
written_header label =
    if bytes_eq label default_label then codes "$ANSIBLE_VAULT;1.1;AES256"
    else codes "$ANSIBLE_VAULT;1.2;AES256;" ++ label

-- salt, tag and ciphertext in hexadecimal, with LF between them
abbrev pub inner_text : List ℕ → List ℕ → List ℕ → List ℕ
inner_text salt tag ciphertext =
    join_with_byte 10 (encode_lower salt ∷ encode_lower tag ∷ encode_lower ciphertext ∷ [])

-- the digits of a full line
abbrev pub digits_per_line : ℕ
digits_per_line = 80

-- line i of a body: 80 digits, or what is left of them
abbrev pub body_line : List ℕ → ℕ → List ℕ
body_line digits i =
    let start = digits_per_line * i in
    slice_range digits start (min (start + digits_per_line) (length digits))

-- a line for each i at which a digit is left, digits_per_line * i < length digits
unfoldable pub body_lines : List ℕ → List (List ℕ)
body_lines digits =
    let count = (length digits + digits_per_line - 1) / digits_per_line in
    map (body_line digits) (range_with_len 0 count)

-- the lines of the envelope, without their ends
abbrev pub written_lines : List ℕ → List ℕ → List ℕ → List ℕ → List (List ℕ)
written_lines label salt tag ciphertext =
    written_header label ∷ body_lines (encode_lower (inner_text salt tag ciphertext))

-- indented lines, each ended by LF
unfoldable pub text_of_lines : List ℕ → List (List ℕ) → List ℕ
text_of_lines indentation lines = flat_map (λ line. indentation ++ line ++ 10 ∷ []) lines

-- bytes in hexadecimal, on indented lines
abbrev pub hexadecimal_lines : List ℕ → List ℕ → List ℕ
hexadecimal_lines indentation bytes = text_of_lines indentation (body_lines (encode_lower bytes))

-- the envelope: all its lines, each ended by LF
unfoldable pub written : List ℕ → List ℕ → List ℕ → List ℕ → List ℕ
written label salt tag ciphertext = text_of_lines [] (written_lines label salt tag ciphertext)
