-- What is read in a header line that was written.
use Rattle.std.proofs.Common.{◌≡◌, ℕ, ◌-◌, ◌≤◌, ◌==◌, true, false, not, List, [], ◌∷◌}
use Rattle.std.proofs.Common.{◌++◌, length, get_or, codes, inl, inr, arith, refl, Ok}
use Rattle.std.specs.List.{list_all, slice_split, starts_with, suffix_len}
use Rattle.std.specs.Prelude.{nat_eq, nat_lt}
use Rattle.std.specs.Str.{bytes_eq}
use Rattle.std.proofs.lemmas.Bool.{and_parts, cases_Bool, leb-true, lt-leb}
use Rattle.std.proofs.lemmas.Bool.Decides.{nat_tests}
use Rattle.std.proofs.lemmas.List.Splits.{slice_split_none}
use Rattle.std.proofs.lemmas.List.Sums.{prefix_len_is, suffix_len_is}
use Rattle.std.proofs.lemmas.List.{take_all}
use Rattle.std.proofs.lemmas.Slice.Eq.{bytes_eq-Decides}
use Rattle.vault_text.specs.Header.{is_ascii, is_line_end, marker, read_header}
use Rattle.vault_text.specs.Label.{default_label, is_label, is_label_character}
use Rattle.vault_text.specs.Whitespace.{is_whitespace, strip}
use Rattle.vault_text.specs.Written.{written_header}
use Rattle.vault_text.proofs.ListLemmas.{list_all-weaker, passes_at}

-- ---- labels

character-whitespace : (c : ℕ) → is_label_character c ≡ true → not (c == 32) ≡ true
    → is_whitespace c ≡ false
character-whitespace c good inner = grind (arith, nat_tests)

-- the parts of the rule
record IsLabel (text : List ℕ) : Type 0 where
  some : 1 ≤ length text
  short : length text ≤ 128
  characters : list_all is_label_character text ≡ true
  start : not (get_or text 0 0 == 32) ≡ true
  end : not (get_or text (length text - 1) 0 == 32) ≡ true

label_parts : (text : List ℕ) → is_label text ≡ true → IsLabel text
label_parts text good =
    let last = and_parts _ _ good in
    let first = and_parts _ _ last.0 in
    let characters = and_parts _ _ first.0 in
    let lengths = and_parts _ _ characters.0 in
    record {
      some = leb-true _ _ lengths.0;
      short = leb-true _ _ lengths.1;
      characters = characters.1;
      start = first.1;
      end = last.1;
    }

-- a label has no whitespace at its ends
strip-label : (text : List ℕ) → IsLabel text → strip text ≡ text
strip-label text label =
    let some = label.some in
    let start = prefix_len_is is_whitespace text 0 0 (omega arith) (λ k below. absurd (omega arith))
    (λ _. character-whitespace (get_or text 0 0)
    (passes_at is_label_character text 0 0 label.characters (omega arith)) label.start) in
    let end = suffix_len_is is_whitespace text (length text) 0 (omega arith)
    (λ k above below. absurd (omega arith))
    (λ _. character-whitespace (get_or text (length text - 1) 0)
    (passes_at is_label_character text (length text - 1) 0 label.characters (omega arith))
    label.end) in
    let none : suffix_len is_whitespace text ≡ 0 = omega arith in
    rw (start, none) (take_all (length text - 0) text (omega arith))

-- a label is not cut
split-label : (text : List ℕ) → IsLabel text → slice_split (λ b. b == 59) text ≡ text ∷ []
split-label text label =
    slice_split_none (λ b. b == 59) text
    (λ k d inside.
    let good = passes_at is_label_character text k d label.characters inside in
    grind (arith, nat_tests))

-- ---- the two forms

pub header-short : (label : List ℕ) → is_label label ≡ true → length (written_header label) ≤ 154
unfolding written_header
header-short label good =
    let short = (label_parts label good).short in
    elim (cases_Bool (bytes_eq label default_label)) [
      | inl same ↦ rw same (omega arith)
      | inr other ↦ rw other (omega arith)
    ]

pub header-clean : (label : List ℕ) → is_label label ≡ true
    → list_all (λ b. not (is_line_end b)) (written_header label) ≡ true
unfolding written_header
header-clean label good =
    elim (cases_Bool (bytes_eq label default_label)) [
      | inl same ↦ rw same refl
      | inr other ↦
          rw other
          (list_all-weaker is_label_character _ (λ c good. grind (arith, nat_tests)) label
          (label_parts label good).characters)
    ]

pub header-starts : (label rest : List ℕ)
    → starts_with nat_eq (written_header label ++ rest) marker ≡ true
unfolding written_header
header-starts label rest =
    elim (cases_Bool (bytes_eq label default_label)) [
      | inl same ↦ rw same refl
      | inr other ↦ rw other refl
    ]

-- ---- reading

read_header-labelled : (label : List ℕ) → is_label label ≡ true
    → read_header (codes "$ANSIBLE_VAULT;1.2;AES256;" ++ label)
    ≡ Ok label
unfolding read_header
read_header-labelled label good =
    let known = label_parts label good in
    let few = known.short in
    let some = known.some in
    let short : nat_lt 256 (length (codes "$ANSIBLE_VAULT;1.2;AES256;" ++ label)) ≡ false =
    lt-leb _ _ (omega arith) in
    let filled : (length label == 0) ≡ false = grind (arith, nat_tests) in
    rw (
      short,
      list_all-weaker is_label_character is_ascii (λ c good. grind (arith, nat_tests)) label
          known.characters,
      split-label label known,
      strip-label label known,
      filled,
      good,
    ) refl

pub header-reads : (label : List ℕ) → is_label label ≡ true
    → read_header (written_header label)
    ≡ Ok label
unfolding written_header read_header
header-reads label good =
    elim (cases_Bool (bytes_eq label default_label)) [
      | inl same ↦ rw (same, (bytes_eq-Decides label default_label).0 same) refl
      | inr other ↦ rw other (read_header-labelled label good)
    ]
