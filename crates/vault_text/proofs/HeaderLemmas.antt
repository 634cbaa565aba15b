-- Text with line ends: the header line, and the text without line ends.
use Rattle.std.proofs.Common.{◌≡◌, ℕ, zero, suc, ◌+◌, ◌<◌, ◌≤◌, true, false, not, List, [], ◌∷◌}
use Rattle.std.proofs.Common.{◌++◌, length, take, drop, refl, ap, arith, inl, inr}
use Rattle.std.specs.Prelude.{nat_eq, ◌&&◌}
use Rattle.std.specs.List.{list_all, position_or_len, starts_with}
use Rattle.std.proofs.lemmas.Bool.{cases_Bool, and_parts, eqb-true, false_from_ne_true}
use Rattle.std.proofs.lemmas.List.{append-nil}
use Rattle.vault_text.specs.Header.{header_line, is_line_end}
use Rattle.vault_text.specs.Envelope.{without_line_ends}

-- ---- one byte more

header_line-other : (b : ℕ) (text : List ℕ) → is_line_end b ≡ false
    → header_line (b ∷ text) ≡ b ∷ header_line text
header_line-other b text other =
    let step : 1 + position_or_len is_line_end text ≡ suc (position_or_len is_line_end text) =
    omega arith in
    rw (other, step) refl

without_line_ends-other : (b : ℕ) (text : List ℕ) → is_line_end b ≡ false
    → without_line_ends (b ∷ text) ≡ b ∷ without_line_ends text
without_line_ends-other b text other = rw other refl

-- ---- a text that has a line end, or none

-- the line ends inside the text
pub header_line-ended : (text more : List ℕ) → length (header_line text) < length text
    → header_line (text ++ more) ≡ header_line text
header_line-ended [] more inside = absurd (omega arith)
header_line-ended (b ∷ text) more inside =
    elim (cases_Bool (is_line_end b)) [
      | inl end ↦ rw end refl
      | inr other ↦
          let shorter = rw (header_line-other b text other) at inside in
          rw (header_line-other b (text ++ more) other, header_line-other b text other)
          (ap (λ rest. b ∷ rest) (header_line-ended text more (omega (arith, shorter))))
    ]

-- the text is all of the line so far
pub header_line-goes_on : (text more : List ℕ) → length text ≤ length (header_line text)
    → header_line (text ++ more) ≡ text ++ header_line more
header_line-goes_on [] more past = refl
header_line-goes_on (b ∷ text) more past =
    elim (cases_Bool (is_line_end b)) [
      | inl end ↦ let short = rw end at past in absurd (omega (arith, short))
      | inr other ↦
          let long = rw (header_line-other b text other) at past in
          rw (header_line-other b (text ++ more) other)
          (ap (λ rest. b ∷ rest) (header_line-goes_on text more (omega (arith, long))))
    ]

pub header_line-whole : (text : List ℕ) → length text ≤ length (header_line text)
    → header_line text ≡ text
header_line-whole text past =
    let whole = header_line-goes_on text [] past in
    rw append-nil at whole

-- ---- a text without line ends, run by run

-- the prefix of a text up to its first line end are digits of the body
pub without_line_ends-run : (text : List ℕ) (n : ℕ)
    → without_line_ends text ≡ header_line (take n text)
    ++ without_line_ends (drop (length (header_line (take n text))) text)
without_line_ends-run [] zero = refl
without_line_ends-run [] (suc n) = refl
without_line_ends-run (b ∷ text) zero = refl
without_line_ends-run (b ∷ text) (suc n) =
    elim (cases_Bool (is_line_end b)) [
      | inl end ↦ let none : header_line (b ∷ take n text) ≡ [] = rw end refl in rw none refl
      | inr other ↦
          rw (header_line-other b (take n text) other, without_line_ends-other b text other)
          (ap (λ rest. b ∷ rest) (without_line_ends-run text n))
    ]

-- ---- the prefix of a text

-- a text begins with bytes that are no line ends if its first line does
pub starts_with-header_line : (needle text : List ℕ)
    → list_all (λ b. not (is_line_end b)) needle ≡ true
    → starts_with nat_eq text needle ≡ starts_with nat_eq (header_line text) needle
starts_with-header_line [] text none = refl
starts_with-header_line (m ∷ needle) [] none = refl
starts_with-header_line (m ∷ needle) (b ∷ text) none =
    let parts = and_parts (not (is_line_end m)) _ none in
    elim (cases_Bool (is_line_end b)) [
      | inl end ↦
          let differs = false_from_ne_true (nat_eq m b) (λ same.
          let ends : is_line_end m ≡ true = rw (eqb-true m b same) end in
          let clash : not true ≡ true = rw ends at parts.0 in cc) in
          rw (end, differs) refl
      | inr other ↦
          rw (header_line-other b text other)
          (ap (λ rest. nat_eq m b && rest) (starts_with-header_line needle text parts.1))
    ]
