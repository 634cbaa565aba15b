-- The tables of src/tables.rt, at every entry.
use Rattle.std.proofs.Common.{◌≡◌, ℕ, ◌<◌, List, [], refl, sym, ap, ◌∙◌, arith, length, slice_index}
use Rattle.std.specs.Prelude.{get_or, map}
use Rattle.std.specs.Int.{w32, to_be_bytes}
use Rattle.std.specs.List.{range_with_len}
use Rattle.std.proofs.lemmas.List.{get_or-map, length-map}
use Rattle.std.proofs.lemmas.List.FromFn.{get_or-map-range_with_len}
use Rattle.vault_aes.specs.declared.tables.TheConstants.{S_BOX, TE0_WORDS, TE1_WORDS}
use Rattle.vault_aes.specs.declared.tables.TheConstants.{TE2_WORDS, TE3_WORDS}
use Rattle.vault_aes.specs.Field.{mul}
use Rattle.vault_aes.specs.SubstitutionBox.{s_box}
use Rattle.vault_aes.specs.Cipher.{column, entry, mixing_matrix}
use Rattle.vault_aes.specs.Columns.{mixed_column}
use Rattle.vault_aes.proofs.FieldLemmas.{on_literals}

S_BOX-values : S_BOX ≡ map s_box (range_with_len 0 256)
unfolding on_literals
S_BOX-values = refl

pub slice_index-S_BOX : (x : ℕ) → x < 256 → slice_index S_BOX x ≡ s_box x
slice_index-S_BOX x lt =
    ap (λ (table : List ℕ). slice_index table x) S_BOX-values
    ∙ get_or-map-range_with_len s_box 0 256 x x 0 lt (omega arith)

-- the part of a column that MixColumns makes of the byte s in row k
abbrev mixed : ℕ → ℕ → List ℕ
mixed k s = column (λ r c. mul (entry mixing_matrix r k) s) 0

-- the words of a table are the columns of the entries of the S-box in row k
abbrev pub IsMixed : List ℕ → ℕ → Type 0
IsMixed table k = map (to_be_bytes w32) table ≡ map (mixed k) S_BOX

pub IsMixed-tables : IsMixed TE0_WORDS 0 × IsMixed TE1_WORDS 1 × IsMixed TE2_WORDS 2
    × IsMixed TE3_WORDS 3
unfolding on_literals
IsMixed-tables = (refl, refl, refl, refl)

pub to_be_bytes-table : (table : List ℕ) (k x : ℕ) → IsMixed table k → x < 256
    → to_be_bytes w32 (slice_index table x) ≡ mixed_column x k
to_be_bytes-table table k x is lt =
    let size : length table ≡ 256 = sym (length-map table (to_be_bytes w32)) ∙ ap length is in
    sym (get_or-map (to_be_bytes w32) table x 0 [] (omega arith))
    ∙ ap (λ (words : List (List ℕ)). get_or words x []) is ∙ get_or-map (mixed k) S_BOX x 0 [] lt
    ∙ ap (mixed k) (slice_index-S_BOX x lt)

mul-1-S_BOX : map (mul 1) S_BOX ≡ S_BOX
unfolding on_literals
mul-1-S_BOX = refl

-- 1 is the unit of the product, at the bytes of the S-box
pub mul-1-s_box : (x : ℕ) → x < 256 → mul 1 (s_box x) ≡ s_box x
mul-1-s_box x lt =
    rw (← slice_index-S_BOX x lt) (sym (get_or-map (mul 1) S_BOX x 0 0 lt)
    ∙ ap (λ (table : List ℕ). slice_index table x) mul-1-S_BOX)
