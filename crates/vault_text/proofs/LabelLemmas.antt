-- Labels are text.
use Rattle.std.proofs.Common.{◌≡◌, ℕ, suc, ◌<◌, ◌==◌, true, false, List, [], ◌∷◌, length, get_or}
use Rattle.std.proofs.Common.{arith, refl, inl, inr}
use Rattle.std.specs.List.{list_all}
use Rattle.std.specs.Str.{IsAscii, IsUtf8}
use Rattle.std.proofs.lemmas.Bool.{and_parts, cases_lt, false_from_ne_true}
use Rattle.std.proofs.lemmas.List.{get_or_past}
use Rattle.std.proofs.lemmas.Bool.Decides.{nat_tests}
use Rattle.std.proofs.lemmas.Str.{IsUtf8-from_ascii}
use Rattle.vault_text.specs.Header.{label_or_default}
use Rattle.vault_text.specs.Label.{is_label, is_label_character}
use Rattle.vault_text.proofs.ListLemmas.{passes_at}

character-ascii : (c : ℕ) → is_label_character c ≡ true → c < 128
character-ascii c h = grind (arith, nat_tests)

characters-ascii : (text : List ℕ) → list_all is_label_character text ≡ true → IsAscii text
characters-ascii text h i =
    elim (cases_lt i (length text)) [
      | inl inside ↦
          character-ascii (get_or text i 0) (passes_at is_label_character text i 0 h inside)
      | inr past ↦ rw (get_or_past text i 0 past) (omega arith)
    ]

-- what is no text names no label
pub no_text_is_no_label : (text : List ℕ) → (IsUtf8 text → ⊥)
    → is_label (label_or_default text) ≡ false
no_text_is_no_label [] not_text =
    absurd (not_text (IsUtf8-from_ascii [] (characters-ascii [] refl)))
no_text_is_no_label (c ∷ rest) not_text =
    let some : (suc (length rest) == 0) ≡ false = grind (arith, nat_tests) in
    rw some (false_from_ne_true (is_label (c ∷ rest)) (λ e.
    let fits = and_parts _ _ e in
    let starts = and_parts _ _ fits.0 in
    let characters = and_parts _ _ starts.0 in
    not_text (IsUtf8-from_ascii (c ∷ rest) (characters-ascii (c ∷ rest) characters.1))))
