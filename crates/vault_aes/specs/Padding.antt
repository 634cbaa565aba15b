-- PKCS #7 padding (RFC 5652, section 6.3) for blocks of 16 bytes, added and removed.
use Rattle.std.specs.Prelude.{◌≡◌, ℕ, ◌+◌, ◌-◌, ◌%◌, ◌≤◌, List, ◌++◌, length, replicate, take}
use Rattle.std.specs.Prelude.{map, find, Option}
use Rattle.std.specs.List.{range_with_len}
use Rattle.std.specs.Str.{bytes_eq}

-- the text is the plaintext followed by 1 to 16 bytes, each equal to their count, and consists of
-- whole blocks
abbrev pub IsPadded : List ℕ → List ℕ → Type 0
IsPadded plaintext text =
    (count : ℕ) × (1 ≤ count) × (count ≤ 16)
    × (text ≡ plaintext ++ replicate count count) × (length text % 16 ≡ 0)

-- the length of n bytes with their padding: the next multiple of 16 above n
abbrev pub padded_length : ℕ → ℕ
padded_length n = n - n % 16 + 16

-- the plaintext, of n bytes, followed by 16 - (n mod 16) bytes, each of that value
unfoldable pub padded : List ℕ → List ℕ
padded plaintext =
    let count = 16 - length plaintext % 16 in plaintext ++ replicate count count

-- the prefixes of the text, each up to one of its bytes
abbrev pub prefixes : List ℕ → List (List ℕ)
prefixes text = map (λ n. take n text) (range_with_len 0 (length text))

-- the plaintext that gives the text when it is padded; none if there is no such plaintext
unfoldable pub without_padding : List ℕ → Option (List ℕ)
without_padding text = find (λ plaintext. bytes_eq (padded plaintext) text) (prefixes text)
