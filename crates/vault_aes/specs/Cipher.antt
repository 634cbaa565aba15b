-- The cipher of AES-256 (FIPS 197, section 5.1). A state is a matrix of bytes with four rows and
-- four columns, represented as the list of its 16 entries column by column (3.4).
use Rattle.std.specs.Prelude.{ℕ, zero, suc, ◌+◌, ◌*◌, ◌%◌, bit_xor}
use Rattle.std.specs.Prelude.{List, [], ◌∷◌, ◌++◌, slice_index}
use Rattle.std.specs.Int.{w32, to_be_bytes}
use Rattle.vault_aes.specs.Field.{mul}
use Rattle.vault_aes.specs.SubstitutionBox.{s_box}

-- the entry in row r and column c (3.4)
abbrev pub entry : List ℕ → ℕ → ℕ → ℕ
entry state r c = slice_index state (r + 4 * c)

-- column c of the matrix with these entries
abbrev pub column : (ℕ → ℕ → ℕ) → ℕ → List ℕ
column entry_at c = entry_at 0 c ∷ entry_at 1 c ∷ entry_at 2 c ∷ entry_at 3 c ∷ []

-- the matrix with these entries
abbrev pub matrix : (ℕ → ℕ → ℕ) → List ℕ
matrix entry_at = column entry_at 0 ++ column entry_at 1 ++ column entry_at 2 ++ column entry_at 3

-- SubBytes (5.1.1): S of each entry
unfoldable pub sub_bytes : List ℕ → List ℕ
sub_bytes state = matrix (λ r c. s_box (entry state r c))

-- ShiftRows (5.1.2): row r is rotated to the left by r places
unfoldable pub shift_rows : List ℕ → List ℕ
shift_rows state = matrix (λ r c. entry state r ((c + r) % 4))

-- entry (r, c) of the product of two matrices over the field (4.3): row r of the first by column c
-- of the second
abbrev pub product_entry : List ℕ → List ℕ → ℕ → ℕ → ℕ
product_entry left right r c =
    bit_xor (bit_xor (bit_xor
    (mul (entry left r 0) (entry right 0 c)) (mul (entry left r 1) (entry right 1 c)))
    (mul (entry left r 2) (entry right 2 c))) (mul (entry left r 3) (entry right 3 c))

-- the matrix of MixColumns (5.1.3), whose rows are 2 3 1 1, 1 2 3 1, 1 1 2 3 and
-- 3 1 1 2, column by column
abbrev pub mixing_matrix : List ℕ
mixing_matrix = 2 ∷ 1 ∷ 1 ∷ 3 ∷ 3 ∷ 2 ∷ 1 ∷ 1 ∷ 1 ∷ 3 ∷ 2 ∷ 1 ∷ 1 ∷ 1 ∷ 3 ∷ 2 ∷ []

-- MixColumns (5.1.3): the product of that matrix and the state
unfoldable pub mix_columns : List ℕ → List ℕ
mix_columns state = matrix (product_entry mixing_matrix state)

-- byte r of a word, where byte 0 is the most significant (3.5)
abbrev pub word_byte : ℕ → ℕ → ℕ
word_byte word r = slice_index (to_be_bytes w32 word) r

-- AddRoundKey (5.1.4): word 4 n + c of the key schedule is added to column c
unfoldable pub add_round_key : List ℕ → ℕ → List ℕ → List ℕ
add_round_key words n state =
    matrix (λ r c. bit_xor (entry state r c) (word_byte (slice_index words (4 * n + c)) r))

-- round n, from 1 to 13 (5.1)
unfoldable pub round : List ℕ → ℕ → List ℕ → List ℕ
round words n state = add_round_key words n (mix_columns (shift_rows (sub_bytes state)))

-- the state after the first round key and n rounds (5.1)
unfoldable pub rounds : List ℕ → List ℕ → ℕ → List ℕ
rounds words block zero = add_round_key words 0 block
rounds words block (suc n) = round words (suc n) (rounds words block n)

-- the cipher of a block under the words of a key schedule: 13 rounds, and a last one without
-- MixColumns (5.1)
unfoldable pub cipher : List ℕ → List ℕ → List ℕ
cipher words block = add_round_key words 14 (shift_rows (sub_bytes (rounds words block 13)))
