-- Text, cut at the first of some bytes, and text in which a byte does not occur.
use Rattle.std.proofs.Common.{◌≡◌, ℕ, ◌+◌, ◌-◌, ◌<◌, ◌==◌, Bool, true, not, List, []}
use Rattle.std.proofs.Common.{◌∷◌, ◌++◌, length, take, drop, get_or, suc, inl, inr, arith, refl}
use Rattle.std.proofs.Common.{◌/◌, ◌%◌, append_assoc, length-append}
use Rattle.std.specs.List.{position_or_len, slice_split, before_first, list_all, after_first}
use Rattle.std.specs.List.{filter}
use Rattle.std.proofs.lemmas.Bool.{cases_Bool, eqb-true, and_parts, cases_lt}
use Rattle.std.proofs.lemmas.List.{take_rest, drop_at, get_or_past, take_at}
use Rattle.std.proofs.lemmas.List.Sums.{passes_at_first, split_at_first, AllPass-from_list_all}
use Rattle.std.proofs.lemmas.List.Splits.{slice_split_first}
use Rattle.std.proofs.lemmas.List.Elements.{All-get_or}
use Rattle.hex.specs.Hex.{encode_lower, encode_with, lower_digits}

-- the part before the place, and the parts of what follows it
pub slice_split-cut : (p : ℕ → Bool) (line : List ℕ) (place : ℕ) → place ≡ position_or_len p line
    → place < length line
    → slice_split p line
    ≡ take place line ∷ slice_split p (take (length line - (place + 1)) (drop (place + 1) line))
slice_split-cut p line place e inside =
    let first = slice_split_first p line 0 (omega arith) in
    rw (take_rest, e) first

-- a text is what comes before the first such byte, the byte, and what comes after it
pub byte_found : (byte : ℕ) (text : List ℕ) (place : ℕ)
    → place ≡ position_or_len (λ b. b == byte) text → place < length text
    → text ≡ take place text ++ byte ∷ drop (place + 1) text
byte_found byte text place e inside =
    let inside_text : position_or_len (λ b. b == byte) text < length text = omega arith in
    let found : get_or text (position_or_len (λ b. b == byte) text) 0 ≡ byte =
    eqb-true _ byte (passes_at_first (λ b. b == byte) text 0 inside_text) in
    rw e (rw found at (split_at_first (λ b. b == byte) text 0 inside_text))

-- none stands before the first
pub before_first-clean_prefix : (p : ℕ → Bool) (text : List ℕ)
    → list_all (λ b. not (p b)) (before_first p text) ≡ true
before_first-clean_prefix p [] = refl
before_first-clean_prefix p (x ∷ rest) =
    elim (cases_Bool (p x)) [
      | inl found ↦ rw found refl
      | inr other ↦
          let step : 1 + position_or_len p rest ≡ suc (position_or_len p rest) = omega arith in
          rw (other, step, other) (before_first-clean_prefix p rest)
    ]

-- the first place at which a test passes, after elements that do not pass it
position_or_len-clean : (p : ℕ → Bool) (xs : List ℕ) (y : ℕ) (ys : List ℕ)
    → list_all (λ b. not (p b)) xs ≡ true → p y ≡ true
    → position_or_len p (xs ++ y ∷ ys) ≡ length xs
position_or_len-clean p [] y ys clean found = rw found refl
position_or_len-clean p (x ∷ xs) y ys clean found =
    let parts = and_parts (not (p x)) (list_all (λ b. not (p b)) xs) clean in
    let later = position_or_len-clean p xs y ys parts.1 found in
    rw parts.0 (omega (arith, later))

pub first-clean : (p : ℕ → Bool) (xs : List ℕ) (y : ℕ) (ys : List ℕ)
    → list_all (λ b. not (p b)) xs ≡ true → p y ≡ true
    → (before_first p (xs ++ y ∷ ys) ≡ xs) × (after_first p (xs ++ y ∷ ys) ≡ ys)
first-clean p xs y ys clean found =
    let place = position_or_len-clean p xs y ys clean found in (
      rw place (take_at xs (y ∷ ys) (length xs) refl),
      rw (place, ← append_assoc xs (y ∷ []) ys)
          (drop_at (xs ++ y ∷ []) ys (length xs + 1) (length-append xs (y ∷ []))),
    )

-- a test that passes wherever another does
pub list_all-weaker : (p q : ℕ → Bool) → ((b : ℕ) → p b ≡ true → q b ≡ true) → (xs : List ℕ)
    → list_all p xs ≡ true → list_all q xs ≡ true
list_all-weaker p q passes [] all = refl
list_all-weaker p q passes (x ∷ xs) all =
    let parts = and_parts (p x) (list_all p xs) all in
    rw (passes x parts.0, list_all-weaker p q passes xs parts.1) refl

-- what passes a test is kept by its filter
pub filter-clean : (p : ℕ → Bool) (xs : List ℕ) → list_all p xs ≡ true → filter p xs ≡ xs
filter-clean p [] clean = refl
filter-clean p (x ∷ xs) clean =
    let parts = and_parts (p x) (list_all p xs) clean in
    rw (parts.0, filter-clean p xs parts.1) refl

-- each element passes
pub passes_at : (p : ℕ → Bool) (xs : List ℕ) (k d : ℕ) → list_all p xs ≡ true → k < length xs
    → p (get_or xs k d) ≡ true
passes_at p xs k d all inside =
    All-get_or (λ b. p b ≡ true) xs k d inside (AllPass-from_list_all p xs all)

-- a digit, or 0 past the digits
lower_digit-clean : (p : ℕ → Bool) → list_all p lower_digits ≡ true → p 0 ≡ true → (k : ℕ)
    → p (get_or lower_digits k 0) ≡ true
lower_digit-clean p clean none k =
    elim (cases_lt k 16) [
      | inl inside ↦ passes_at p lower_digits k 0 clean inside
      | inr past ↦ rw (get_or_past lower_digits k 0 past) none
    ]

encode_with-clean : (p : ℕ → Bool) (t xs : List ℕ) → ((k : ℕ) → p (get_or t k 0) ≡ true)
    → list_all p (encode_with t xs) ≡ true
unfolding encode_with
encode_with-clean p t [] clean = refl
encode_with-clean p t (b ∷ rest) clean =
    rw (clean (b / 16), clean (b % 16), encode_with-clean p t rest clean) refl

-- hexadecimal text passes a test that its digits pass
pub encode_lower-clean : (p : ℕ → Bool) → list_all p lower_digits ≡ true → p 0 ≡ true
    → (xs : List ℕ) → list_all p (encode_lower xs) ≡ true
encode_lower-clean p clean none xs =
    encode_with-clean p lower_digits xs (lower_digit-clean p clean none)

-- a piece more of a text that is taken in pieces, of which `rest` is next
pub piece_after : (taken rest start lines more whole piece : List ℕ)
    → taken ++ rest ≡ start ++ lines → piece ≡ rest ++ more → lines ++ more ≡ whole
    → taken ++ piece ≡ start ++ whole
piece_after taken rest start lines more whole piece so_far is next =
    rw (is, ← append_assoc taken rest more, so_far, append_assoc start lines more, next) refl
