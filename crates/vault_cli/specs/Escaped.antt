-- Arguments, as messages show them.
use Rattle.std.specs.Prelude.{◌≡◌, ℕ, false, ◌||◌, ◌++◌, ◌∷◌, [], Bool, if◌then◌else◌, List, codes}
use Rattle.std.specs.Char.{is_control}
use Rattle.std.specs.Fmt.{digits}
use Rattle.std.specs.Int.{is_in_range}
use Rattle.std.specs.List.{flat_map}
use Rattle.std.specs.Str.{chars, encode_utf8_all}

-- control characters, zero-width spaces and joiners, separators of lines and paragraphs, and
-- characters that set the direction of text
abbrev pub is_unprintable : ℕ → Bool
is_unprintable c =
    is_control c || is_in_range 0x200b 0x200f c || is_in_range 0x2028 0x202e c
    || is_in_range 0x2066 0x2069 c

-- any other character
abbrev pub IsPrintable : ℕ → Type 0
IsPrintable c = is_unprintable c ≡ false

-- a character; an unprintable one as `\u{`, its number in hexadecimal, and `}`
abbrev pub escaped_char : ℕ → List ℕ
escaped_char c =
    if is_unprintable c then codes "\\u{" ++ digits 16 false c ++ codes "}" else c ∷ []

-- a text with each character escaped in this way
abbrev pub escaped_text : List ℕ → List ℕ
escaped_text text = encode_utf8_all (flat_map escaped_char (chars text))
