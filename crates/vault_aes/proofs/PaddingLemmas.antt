-- Padding that is put on, and the one plaintext that is left when it is taken off.
use Rattle.std.proofs.Common.{◌≡◌, ℕ, ◌-◌, ◌%◌, ◌≤◌, List, [], ◌∷◌, ◌++◌, Option, Some}
use Rattle.std.proofs.Common.{None, refl, sym, ap, ◌∙◌, arith, drop, drop_at, length, length-append}
use Rattle.std.proofs.Common.{length-drop, replicate, slice_index, take}
use Rattle.std.proofs.Common.{take_at, Bool, true, false, inl, inr}
use Rattle.std.specs.Prelude.{All, IfNone, IfSome, IsTrue, find, ◌↔◌}
use Rattle.std.specs.Bool.{Decides}
use Rattle.std.specs.Option.{option_map}
use Rattle.std.specs.Str.{bytes_eq}
use Rattle.std.proofs.lemmas.Bool.{cases_Bool}
use Rattle.std.proofs.lemmas.List.{take-append-drop, get_or-append_right, get_or-replicate}
use Rattle.std.proofs.lemmas.List.{length-replicate, same_lists}
use Rattle.std.proofs.lemmas.List.Elements.{All-replicate}
use Rattle.std.proofs.lemmas.List.FromFn.{get_or-map-range_with_len, length-map-range_with_len}
use Rattle.std.proofs.lemmas.Map.Made.{find_same, is_member-Decides}
use Rattle.std.proofs.lemmas.Slice.Eq.{bytes_eq-Decides}
use Rattle.vault_aes.specs.Padding.{IsPadded, padded, padded_length, prefixes, without_padding}

-- ---- padding that is put on

abbrev count_of : List ℕ → ℕ
count_of plain = 16 - length plain % 16

abbrev padding_of : List ℕ → List ℕ
padding_of plain = replicate (count_of plain) (count_of plain)

pub length-padded : (plain : List ℕ) → length (padded plain) ≡ padded_length (length plain)
unfolding padded
length-padded plain = simp (length-append, length-replicate) (omega arith)

-- the text that the formula gives is one
pub IsPadded-padded : (plain : List ℕ) → IsPadded plain (padded plain)
unfolding padded
IsPadded-padded plain =
    (count_of plain, omega arith, omega arith, refl, omega (arith, length-padded plain))

-- no other text is one
pub padded-unique : (plain text : List ℕ) → IsPadded plain text → text ≡ padded plain
unfolding padded
padded-unique plain text is =
    let long = simp (length-append, length-replicate) at (ap length is.3) in
    let counted : is.0 ≡ count_of plain = omega (arith, is.1, is.2, is.4, long) in
    is.3 ∙ ap (λ (count : ℕ). plain ++ replicate count count) counted

pub take-padded : (plain : List ℕ) → take (length plain) (padded plain) ≡ plain
unfolding padded
take-padded plain = take_at plain (padding_of plain) (length plain) refl

-- the last byte of a text
abbrev pub last_of : List ℕ → ℕ
last_of text = slice_index text (length text - 1)

pub last-padded : (plain : List ℕ) → last_of (padded plain) ≡ count_of plain
unfolding padded
last-padded plain =
    let total = length-padded plain in
    get_or-append_right plain (padding_of plain) (length plain) (length (padded plain) - 1) 0 refl
    (omega (arith, total))
    ∙ get_or-replicate (count_of plain) (length (padded plain) - 1 - length plain) (count_of plain)
    0 (omega (arith, total))

-- only one plaintext has the padding
pub padded-once : (one other : List ℕ) → padded one ≡ padded other → one ≡ other
padded-once one other same =
    let last = rw same at (last-padded one) in
    let size = rw same at (length-padded one) in
    let long : length one ≡ length other =
    omega (arith, last, size, last-padded other, length-padded other) in
    sym (take-padded one) ∙ (λ i. take (long i) (same i)) ∙ take-padded other

-- ---- padding that is taken off

find-passes : {X : Type 0} (test : X → Bool) (xs : List X)
    → IfSome (find test xs) (λ x. test x ≡ true)
find-passes test [] = tt
find-passes test (x ∷ xs) = elim (cases_Bool (test x)) [
  | inl holds ↦ rw holds holds
  | inr fails ↦ rw fails (find-passes test xs)
]

pub padded-without_padding : (plain text : List ℕ) → without_padding text ≡ Some plain
    → padded plain ≡ text
unfolding without_padding
padded-without_padding plain text found =
    (bytes_eq-Decides (padded plain) text).0
    (rw found at (find-passes (λ other. bytes_eq (padded other) text) (prefixes text)))

padded-Decides : (one other : List ℕ)
    → Decides (bytes_eq (padded other) (padded one)) (one ≡ other)
padded-Decides one other =
    let decides = bytes_eq-Decides (padded other) (padded one) in
    (λ is. padded-once one other (sym (decides.0 is)), λ same. decides.1 (ap padded (sym same)))

pub without_padding-padded : (plain text : List ℕ) → padded plain ≡ text
    → without_padding text ≡ Some plain
unfolding without_padding
without_padding-padded plain text is =
    let all : List ℕ = padded plain in
    let n : ℕ = length plain in
    let size = length-padded plain in
    let count = length-map-range_with_len (λ k. take k all) 0 (length all) in
    let taken = get_or-map-range_with_len (λ k. take k all) 0 (length all) n n plain
    (omega (arith, size)) (omega arith) ∙ take-padded plain in
    let some = (is_member-Decides padded-Decides (prefixes all) plain).1
    (n, omega (arith, count, size), taken) in
    rw (← is) (find_same padded-Decides plain (prefixes all) ∙ rw some refl)

-- if no plaintext has the padding
pub without_padding-None : (text : List ℕ) → ((plain : List ℕ) → padded plain ≡ text → ⊥)
    → None ≡ without_padding text
without_padding-None text none = unless (without_padding text) refl
  where
    unless : (found : Option (List ℕ)) → without_padding text ≡ found → None ≡ found
    unless None is = refl
    unless (Some plain) is = absurd (none plain (padded-without_padding plain text is))

-- a list of one byte
replicate-from_All : (value n : ℕ) (xs : List ℕ) → length xs ≡ n → All (λ x. x ≡ value) xs
    → xs ≡ replicate n value
replicate-from_All value n xs long all =
    same_lists xs (replicate n value) (long ∙ sym (length-replicate n value))
    (λ k d lt. all k d lt ∙ sym (get_or-replicate n k value d (omega arith)))

-- a text in whole blocks whose last byte is a count of 1 to 16: whether so many of its last bytes
-- are the same says whether it is padded
module _ (text : List ℕ) (count : ℕ) (same : Bool) (last : count ≡ last_of text) (low : 1 ≤ count)
    (high : count ≤ 16) (some : 1 ≤ length text) (whole : length text % 16 ≡ 0)
    (all : IsTrue same ↔ All (λ x. x ≡ count) (drop (length text - count) text)) where
  pub IsPadded-same : same ≡ true → IsPadded (take (length text - count) text) text
  IsPadded-same is =
      let n : ℕ = length text - count in
      let back : length (drop n text) ≡ count = length-drop n text ∙ omega arith in
      let tail = replicate-from_All count count (drop n text) back (all.0 is) in
      (count, low, high, sym (rw tail at (take-append-drop n text)), whole)

  pub not_padded-other : same ≡ false → (plain : List ℕ) → IsPadded plain text → ⊥
  unfolding padded
  not_padded-other is plain padding =
      let unique = sym (padded-unique plain text padding) in
      let counted : count_of plain ≡ count = sym (rw unique at (last-padded plain)) ∙ sym last in
      let size = rw unique at (length-padded plain) in
      let start : length text - count ≡ length plain = omega (arith, size) in
      let tail : drop (length text - count) text ≡ replicate count count =
      rw (start, ← unique, ← counted) (drop_at plain (padding_of plain) (length plain) refl) in
      cc (all.1 (rw tail (All-replicate (λ x. x ≡ count) count count refl)))

-- the length of the plaintext that a text is when it is padded, or none, gives the plaintext
pub take-without_padding : (text : List ℕ) (found : Option ℕ)
    → IfSome found (λ n. IsPadded (take n text) text)
    → IfNone found ((plain : List ℕ) → IsPadded plain text → ⊥)
    → option_map (λ n. take n text) found ≡ without_padding text
take-without_padding text (Some n) padding none =
    sym (without_padding-padded (take n text) text (sym (padded-unique (take n text) text padding)))
take-without_padding text None padding none =
    without_padding-None text (λ plain is. none plain (rw is at (IsPadded-padded plain)))
