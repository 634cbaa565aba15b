-- Hexadecimal text, digit by digit.
use Rattle.std.proofs.Common.{◌≡◌, ℕ, suc, ◌+◌, ◌*◌, ◌%◌, ◌<◌, Bool, true, false, List, [], ◌∷◌}
use Rattle.std.proofs.Common.{◌++◌, length, take, set, get_or, Option, Some, None, Result, Ok, Err}
use Rattle.std.proofs.Common.{zero-add, refl, sym, ap, ◌∙◌, arith, append_assoc, length-take}
use Rattle.std.specs.Prelude.{if◌then◌else◌, ◌&&◌, nat_le, IfSome, MatchResult, is_ok, is_some}
use Rattle.std.specs.Prelude.{unwrap_or}
use Rattle.std.specs.Int.Bits.{bit_or}
use Rattle.std.proofs.Math.Seq.{take-suc}
use Rattle.std.proofs.lemmas.Bool.Decides.{nat_tests}
use Rattle.std.proofs.lemmas.List.{take_more_set}
use Rattle.std.proofs.lemmas.Nat.{or_shifted}
use Rattle.hex.specs.Hex.{decode_pairs, decode_sized, digit_or_error, hex_digit_value, ◌>>=◌}
use Rattle.hex.specs.declared.error.FromHexError.{FromHexError}
use Rattle.vault_text.specs.Hexadecimal.{unhex}
use Rattle.vault_text.proofs.HexadecimalLemmas.{both_found, cons_found, pair_found}
use Rattle.vault_text.proofs.HexadecimalLemmas.{unhex-append, unhex-spelled_bytes}

-- ---- one digit

found_value : (digit : ℕ) (value : Option ℕ) (out : List ℕ) (r : Result (Unit {0}) FromHexError)
    → MatchResult
    ((digit_or_error digit 1 value >>= (λ low. Ok (0 * 16 + low))) >>= (λ byte. Ok (byte ∷ [])))
    (λ bytes. (r ≡ Ok tt) × (out ≡ bytes)) (λ e. r ≡ Err e)
    → value ≡ (if is_ok r then Some (get_or out 0 0) else None)
found_value digit (Some v) out r answered = rw (answered.0, answered.1) (ap Some (sym (zero-add v)))
found_value digit None out r answered = rw answered refl

-- what decoding of a digit after a zero returns, and leaves in its room
pub digit-answered : (digit : ℕ) (out : List ℕ) (r : Result (Unit {0}) FromHexError)
    → MatchResult (decode_sized (48 ∷ digit ∷ []) 1) (λ bytes. (r ≡ Ok tt) × (out ≡ bytes))
    (λ e. r ≡ Err e)
    → hex_digit_value digit ≡ (if is_ok r then Some (get_or out 0 0) else None)
unfolding decode_pairs
digit-answered digit out r answered = found_value digit (hex_digit_value digit) out r answered

pub hex_digit_value-small : (digit : ℕ) → IfSome (hex_digit_value digit) (λ value. value < 16)
hex_digit_value-small digit =
    chosen (nat_le 65 digit && nat_le digit 70) (nat_le 97 digit && nat_le digit 102)
    (nat_le 48 digit && nat_le digit 57) _ _ _
    (λ upper. grind (arith, nat_tests)) (λ lower. grind (arith, nat_tests))
    (λ figure. grind (arith, nat_tests))
  where
    chosen : (upper lower figure : Bool) (a b c : ℕ) → (upper ≡ true → a < 16)
        → (lower ≡ true → b < 16) → (figure ≡ true → c < 16)
        → IfSome
        (if upper then Some a else if lower then Some b else if figure then Some c else None)
        (λ value. value < 16)
    chosen true lower figure a b c p q r = p refl
    chosen false true figure a b c p q r = q refl
    chosen false false true a b c p q r = r refl
    chosen false false false a b c p q r = tt

-- ---- pairs of digits

-- the bytes so far, if all digits were good
abbrev pub found_if : Bool → List ℕ → Option (List ℕ)
found_if is_good bytes = if is_good then Some bytes else None

-- a pair more
values_next : (is_good : Bool) (prefix : List ℕ) (high low : Option ℕ)
    → IfSome high (λ value. value < 16) → IfSome low (λ value. value < 16)
    → found_if (is_good && (is_some high && is_some low))
    (prefix ++ bit_or (unwrap_or high 0 * 16 % 256) (unwrap_or low 0) ∷ [])
    ≡ both_found (found_if is_good prefix) (cons_found (pair_found high low) (Some []))
values_next true prefix (Some h) (Some l) high low =
    let fits : h * 16 % 256 ≡ h * 16 = omega arith in
    let byte : bit_or (h * 16) l ≡ h * 16 + l = or_shifted h 4 l low in
    rw (fits, byte) refl
values_next true prefix (Some h) None high low = refl
values_next true prefix None low high small = refl
values_next false prefix high low p q = refl

take-pair : (pairs : List ℕ) (place : ℕ) → 2 * place + 1 < length pairs
    → take (2 * (place + 1)) pairs
    ≡ take (2 * place) pairs ++ get_or pairs (2 * place) 0 ∷ get_or pairs (2 * place + 1) 0 ∷ []
take-pair pairs place inside =
    let many : 2 * (place + 1) ≡ suc (2 * place + 1) = omega arith in
    let one : suc (2 * place) ≡ 2 * place + 1 = omega arith in
    let second = take-suc pairs (2 * place + 1) 0 inside in
    let first = rw one at (take-suc pairs (2 * place) 0 (omega arith)) in
    rw many (second ∙ rw first (append_assoc (take (2 * place) pairs)
    (get_or pairs (2 * place) 0 ∷ []) (get_or pairs (2 * place + 1) 0 ∷ [])))

pub decoded_next : (pairs bytes : List ℕ) (place : ℕ) (is_good : Bool)
    → length pairs ≡ 2 * length bytes → place < length bytes
    → unhex (take (2 * place) pairs) ≡ found_if is_good (take place bytes)
    → (let high = hex_digit_value (get_or pairs (2 * place) 0) in
    let low = hex_digit_value (get_or pairs (2 * place + 1) 0) in
    unhex (take (2 * (place + 1)) pairs)
    ≡ found_if (is_good && (is_some high && is_some low))
    (take (place + 1) (set bytes place (bit_or (unwrap_or high 0 * 16 % 256) (unwrap_or low 0)))))
decoded_next pairs bytes place is_good fits inside so_far =
    let a = get_or pairs (2 * place) 0 in
    let b = get_or pairs (2 * place + 1) 0 in
    let even : length (take (2 * place) pairs) % 2 ≡ 0 =
    omega (arith, length-take (2 * place) pairs) in
    let next = values_next is_good (take place bytes) (hex_digit_value a) (hex_digit_value b)
    (hex_digit_value-small a) (hex_digit_value-small b) in
    rw (
      take_more_set bytes place
          (bit_or (unwrap_or (hex_digit_value a) 0 * 16 % 256) (unwrap_or (hex_digit_value b) 0))
          inside,
      take-pair pairs place (omega arith),
      unhex-append (take (2 * place) pairs) (a ∷ b ∷ []) even,
      so_far,
      unhex-spelled_bytes (a ∷ b ∷ []),
    )
    (sym next)
