-- The steps of the key expansion, as the code makes them.
use Rattle.std.proofs.Common.{◌≡◌, ℕ, suc, ◌+◌, ◌-◌, ◌*◌, ◌/◌, ◌%◌, ◌^◌, ◌<◌, ◌≤◌, List}
use Rattle.std.proofs.Common.{refl, ap, ◌∙◌, arith, bit_or, get_or-take, length}
use Rattle.std.proofs.Common.{slice_index, slice_set, take}
use Rattle.std.specs.Prelude.{map}
use Rattle.std.specs.Int.{w32, rotate_left}
use Rattle.std.specs.List.{range_with_len}
use Rattle.std.proofs.lemmas.List.{take_more_set}
use Rattle.std.proofs.lemmas.List.FromFn.{get_or-map-range_with_len}
use Rattle.std.proofs.lemmas.Nat.{or_shifted}
use Rattle.vault_aes.specs.declared.key_expansion.TheConstants.{ROUND_CONSTANTS}
use Rattle.vault_aes.specs.KeyExpansion.{first_words, next_word, power_of_x, rot_word}
use Rattle.vault_aes.specs.KeyExpansion.{round_constant}
use Rattle.vault_aes.proofs.FieldLemmas.{on_literals}

ROUND_CONSTANTS-values : ROUND_CONSTANTS ≡ map round_constant (range_with_len 1 7)
unfolding on_literals power_of_x round_constant
ROUND_CONSTANTS-values = refl

pub slice_index-ROUND_CONSTANTS : (j : ℕ) → 1 ≤ j → j ≤ 7
    → slice_index ROUND_CONSTANTS (j - 1) ≡ round_constant j
slice_index-ROUND_CONSTANTS j low high =
    ap (λ (words : List ℕ). slice_index words (j - 1)) ROUND_CONSTANTS-values
    ∙ get_or-map-range_with_len round_constant 1 7 (j - 1) j 0 (omega arith) (omega arith)

pub rot_word-rotate_left : (n : ℕ) → n < 2 ^ 32 → rot_word n ≡ rotate_left w32 n 8
unfolding rot_word
rot_word-rotate_left n fits =
    let low : n * 2 ^ 8 % 2 ^ 32 ≡ n % 2 ^ 24 * 2 ^ 8 = omega arith in
    let whole : bit_or (n * 2 ^ 8 % 2 ^ 32) (n / 2 ^ 24) ≡ n % 2 ^ 24 * 2 ^ 8 + n / 2 ^ 24 =
    rw low (or_shifted (n % 2 ^ 24) 8 (n / 2 ^ 24) (omega arith)) in
    omega (arith, whole)

-- a word is made of the words before it only
next_word-take : (words : List ℕ) (i : ℕ) → 8 ≤ i → next_word (take i words) i ≡ next_word words i
unfolding next_word
next_word-take words i low =
    let eighth : i - 8 < i = omega arith in
    let last : i - 1 < i = omega arith in
    rw (get_or-take i words (i - 8) 0, get_or-take i words (i - 1) 0) refl

-- one more word of the key schedule
pub first_words-more : (key words : List ℕ) (i : ℕ) → 8 ≤ i → i < length words
    → take i words ≡ first_words key (i - 8)
    → take (i + 1) (slice_set words i (next_word words i)) ≡ first_words key (i + 1 - 8)
unfolding first_words
first_words-more key words i low high held =
    let next : i + 1 - 8 ≡ suc (i - 8) = omega arith in
    let at : 8 + (i - 8) ≡ i = omega arith in
    take_more_set words i (next_word words i) high
    ∙ rw (next, at, ← held, next_word-take words i low) refl
