-- Hexadecimal text: two digits per byte, the high four bits first.
use Rattle.std.specs.Prelude.{◌≡◌, ℕ, ◌/◌, Bool, false, ◌++◌, if◌then◌else◌, List, length}
use Rattle.std.specs.Prelude.{Option, None, unwrap_or}
use Rattle.std.specs.Option.{option_map, option_to_list}
use Rattle.std.specs.Result.{result_ok}
use Rattle.hex.specs.Hex.{decode_of, hex_digit_value}

-- the bytes that an even number of digits of either case spells; none if the text is anything else
abbrev pub unhex : List ℕ → Option (List ℕ)
unhex text = result_ok (decode_of text)

-- the value of a digit of either case; 255 for any other byte
abbrev pub value_or_invalid : ℕ → ℕ
value_or_invalid digit = unwrap_or (hex_digit_value digit) 255

-- a decoder of text in pieces: the first digit of a byte whose second has not come yet, and whether
-- there was a byte that is not a digit
pub record DecoderState : Type 0 where
  pub high : Option ℕ
  pub is_bad : Bool

-- a decoder that has taken no text
abbrev pub new_decoder : DecoderState
new_decoder = record { high = None; is_bad = false }

-- the bytes that a text spells if it continues the text that a decoder has taken
abbrev pub unhex_on : DecoderState → List ℕ → Option (List ℕ)
unhex_on decoder text = if decoder.is_bad then None else unhex (option_to_list decoder.high ++ text)

-- how many bytes the digits complete
abbrev pub byte_count : DecoderState → List ℕ → ℕ
byte_count decoder digits = length (option_to_list decoder.high ++ digits) / 2

-- a decoder that takes these digits gives these bytes, whatever follows
pub record Decodes (old : DecoderState) (digits bytes : List ℕ) (new : DecoderState) : Type 0 where
  pub spelled : (more : List ℕ)
      → unhex_on old (digits ++ more) ≡ option_map (λ rest. bytes ++ rest) (unhex_on new more)
