-- The state as the code represents it: four words, each a column with row 0 in its most
-- significant byte.
use Rattle.std.specs.Prelude.{ℕ, List, [], ◌∷◌, ◌++◌, bit_xor, slice_index}
use Rattle.std.specs.Int.{w32, to_be_bytes}
use Rattle.vault_aes.specs.Field.{mul}
use Rattle.vault_aes.specs.SubstitutionBox.{s_box}
use Rattle.vault_aes.specs.Cipher.{column, entry, mixing_matrix, product_entry, word_byte}

-- the state whose columns are these four words
abbrev pub state_of : List ℕ → List ℕ
state_of columns =
    to_be_bytes w32 (slice_index columns 0) ++ to_be_bytes w32 (slice_index columns 1)
    ++ to_be_bytes w32 (slice_index columns 2) ++ to_be_bytes w32 (slice_index columns 3)

-- the part of a column that MixColumns makes from S of the byte x in row k
abbrev pub mixed_column : ℕ → ℕ → List ℕ
mixed_column x k = column (λ r c. mul (entry mixing_matrix r k) (s_box x)) 0

-- a column with a word of the key schedule added
abbrev pub keyed_column : (ℕ → ℕ → ℕ) → ℕ → List ℕ
keyed_column entry_at key = column (λ r c. bit_xor (entry_at r c) (word_byte key r)) 0

-- SubBytes (5.1.1) of the column a, b, c, d
abbrev pub sub_column : ℕ → ℕ → ℕ → ℕ → List ℕ
sub_column a b c d = s_box a ∷ s_box b ∷ s_box c ∷ s_box d ∷ []

-- the column a, b, c, d after a round, from the bytes that ShiftRows brings together
abbrev pub round_column : ℕ → ℕ → ℕ → ℕ → ℕ → List ℕ
round_column a b c d key =
    keyed_column (product_entry mixing_matrix (sub_column a b c d)) key

-- the column a, b, c, d after the last round, which does not mix
abbrev pub final_column : ℕ → ℕ → ℕ → ℕ → ℕ → List ℕ
final_column a b c d key = keyed_column (λ r c'. slice_index (sub_column a b c d) r) key
