-- Blocks of hexadecimal digits, whose values are found before any two are joined to a byte.
use Rattle.std.proofs.Common.{◌≡◌, ℕ, ◌+◌, ◌-◌, ◌*◌, ◌%◌, ◌<◌, ◌≤◌, Bool, true, false, List, []}
use Rattle.std.proofs.Common.{◌∷◌, ◌++◌, length, take, drop, map, set, get_or, Option, Some, None}
use Rattle.std.proofs.Common.{refl, sym, ap, ◌∙◌, arith, inl, inr, length-take}
use Rattle.std.specs.List.{list_all}
use Rattle.std.specs.Prelude.{◌&&◌, nat_le, IfSome, is_some, unwrap_or}
use Rattle.std.specs.Int.Bits.{bit_or}
use Rattle.std.proofs.Math.Seq.{take-add}
use Rattle.std.proofs.lemmas.Bool.{cases_lt, le-leb, lt-leb}
use Rattle.std.proofs.lemmas.List.{get_or-map, map_more, take_more_set}
use Rattle.std.proofs.lemmas.List.Folds.{list_all_more}
use Rattle.std.proofs.lemmas.Nat.{le_or_l, le_or_r, or_lt}
use Rattle.std.proofs.lemmas.Slice.{take-put_mid}
use Rattle.hex.specs.Hex.{hex_digit_value, is_hex_digit}
use Rattle.vault_text.specs.Hexadecimal.{unhex, value_or_invalid}
use Rattle.vault_text.proofs.HexadecimalDigitLemmas.{decoded_next, found_if, hex_digit_value-small}
use Rattle.vault_text.proofs.HexadecimalLemmas.{both_found, cons_found, pair_found}
use Rattle.vault_text.proofs.HexadecimalLemmas.{spelled_bytes, unhex-append, unhex-spelled_bytes}
use Rattle.vault_text.proofs.ListLemmas.{passes_at}
use borrow.Rule.Slice.PartMut.{put_mid}

-- ---- the values of digits

-- all values so far are those of digits, and the next is
values_small : (seen : ℕ) (value : Option ℕ) → IfSome value (λ v. v < 16)
    → nat_le (bit_or seen (unwrap_or value 255)) 15 ≡ (nat_le seen 15 && is_some value)
values_small seen (Some v) small =
    elim (cases_lt 15 seen) [
      | inl large ↦
          let more = le_or_l seen v in
          rw (lt-leb seen 15 large, lt-leb (bit_or seen v) 15 (omega arith)) refl
      | inr few ↦
          let both = or_lt 4 seen v (omega arith) small in
          rw (le-leb seen 15 few, le-leb (bit_or seen v) 15 (omega arith)) refl
    ]
values_small seen None small =
    let more = le_or_r seen 255 in
    rw (lt-leb (bit_or seen 255) 15 (omega arith), and-false (nat_le seen 15)) refl
  where
    and-false : (b : Bool) → (b && false) ≡ false
    and-false true = refl
    and-false false = refl

-- a digit more
pub digits_next : (digits : List ℕ) (seen place : ℕ) → place < length digits
    → list_all is_hex_digit (take place digits) ≡ nat_le seen 15
    → list_all is_hex_digit (take (place + 1) digits)
    ≡ nat_le (bit_or seen (value_or_invalid (get_or digits place 0))) 15
digits_next digits seen place inside so_far =
    let digit = get_or digits place 0 in
    list_all_more is_hex_digit digits place 0 inside
    ∙ rw so_far (sym (values_small seen (hex_digit_value digit) (hex_digit_value-small digit)))

pub values_next : (digits values : List ℕ) (place : ℕ) → place < length digits
    → place < length values
    → take place values ≡ map value_or_invalid (take place digits)
    → take (place + 1) (set values place (value_or_invalid (get_or digits place 0)))
    ≡ map value_or_invalid (take (place + 1) digits)
values_next digits values place inside fits so_far =
    rw (
      take_more_set values place (value_or_invalid (get_or digits place 0)) fits,
      map_more value_or_invalid digits place 0 inside,
      so_far,
    ) refl

-- ---- the bytes of values

value-found : (value : Option ℕ) → is_some value ≡ true → value ≡ Some (unwrap_or value 255)
value-found (Some v) some = refl
value-found None some = cc

-- a digit among digits
digit-found : (digits : List ℕ) (i : ℕ) → list_all is_hex_digit digits ≡ true → i < length digits
    → hex_digit_value (get_or digits i 0) ≡ Some (get_or (map value_or_invalid digits) i 0)
digit-found digits i all inside =
    let digit = get_or digits i 0 in
    value-found (hex_digit_value digit)
    (passes_at is_hex_digit digits i 0 all inside)
    ∙ ap Some (sym (get_or-map value_or_invalid digits i 0 0 inside))

-- the byte of two values more
pub joined_next : (digits values bytes : List ℕ) (place : ℕ)
    → length digits ≡ 2 * length bytes → place < length bytes
    → values ≡ map value_or_invalid digits → list_all is_hex_digit digits ≡ true
    → unhex (take (2 * place) digits) ≡ Some (take place bytes)
    → unhex (take (2 * (place + 1)) digits)
    ≡ Some
    (take (place + 1)
    (set bytes place
    (bit_or (get_or values (2 * place) 0 * 16 % 256) (get_or values (2 * place + 1) 0))))
joined_next digits values bytes place fits inside are all so_far =
    let high = digit-found digits (2 * place) all (omega arith) in
    let low = digit-found digits (2 * place + 1) all (omega arith) in
    rw (high, low, ← are) at (decoded_next digits bytes place true fits inside so_far)

bad_pair : (high low : Option ℕ) (rest : Option (List ℕ)) (all : Bool)
    → (is_some high && (is_some low && all)) ≡ false → (all ≡ false → rest ≡ None)
    → cons_found (pair_found high low) rest ≡ None
bad_pair None low rest all bad later = refl
bad_pair (Some h) None rest all bad later = refl
bad_pair (Some h) (Some l) rest true bad later = cc
bad_pair (Some h) (Some l) rest false bad later = rw (later refl) refl

pub spelled_bytes-bad : (text : List ℕ) → list_all is_hex_digit text ≡ false
    → spelled_bytes text ≡ None
spelled_bytes-bad [] bad = cc
spelled_bytes-bad (digit ∷ []) bad = refl
spelled_bytes-bad (high ∷ low ∷ rest) bad =
    bad_pair (hex_digit_value high) (hex_digit_value low) (spelled_bytes rest)
    (list_all is_hex_digit rest) bad (spelled_bytes-bad rest)

-- what a block spells, whether all its digits are good or not
pub unhex-block : (digits bytes : List ℕ) (is_good : Bool)
    → is_good ≡ list_all is_hex_digit digits
    → (list_all is_hex_digit digits ≡ true → unhex digits ≡ Some bytes)
    → unhex digits ≡ found_if is_good bytes
unhex-block digits bytes true good spelled = spelled (sym good)
unhex-block digits bytes false good spelled =
    unhex-spelled_bytes digits ∙ spelled_bytes-bad digits (sym good)

-- ---- blocks, one after another

both_found-if : (a b : Bool) (xs ys : List ℕ)
    → both_found (found_if a xs) (found_if b ys) ≡ found_if (a && b) (xs ++ ys)
both_found-if true true xs ys = refl
both_found-if true false xs ys = refl
both_found-if false b xs ys = refl

-- a piece more
pub pieces_next : (pairs bytes piece : List ℕ) (done end : ℕ) (a b : Bool)
    → done ≤ length bytes → length piece ≡ end - done → done ≤ end
    → unhex (take (2 * done) pairs) ≡ found_if a (take done bytes)
    → unhex (take (2 * end - 2 * done) (drop (2 * done) pairs)) ≡ found_if b piece
    → length pairs ≡ 2 * length bytes
    → unhex (take (2 * end) pairs)
    ≡ found_if (a && b) (take end (put_mid done (end - done) bytes piece))
pieces_next pairs bytes piece done end a b inside len forward so_far more fits =
    let to : 2 * done + (2 * end - 2 * done) ≡ 2 * end = omega arith in
    let even : length (take (2 * done) pairs) % 2 ≡ 0 =
    omega (arith, length-take (2 * done) pairs) in
    rw (
      ← to,
      take-add (2 * done) (2 * end - 2 * done) pairs,
      unhex-append (take (2 * done) pairs) (take (2 * end - 2 * done) (drop (2 * done) pairs)) even,
      so_far,
      more,
      take-put_mid done (end - done) bytes piece end (omega arith) inside,
    ) (both_found-if a b (take done bytes) piece)
