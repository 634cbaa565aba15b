-- The key expansion of AES-256 (FIPS 197, section 5.2). A word is a number below 2^32 whose four
-- big-endian bytes are those of the standard's word.
use Rattle.std.specs.Prelude.{ℕ, zero, suc, ◌+◌, ◌-◌, ◌*◌, ◌/◌, ◌%◌, ◌==◌, if◌then◌else◌, bit_xor}
use Rattle.std.specs.Prelude.{List, [], ◌∷◌, ◌++◌, map, slice_index}
use Rattle.std.specs.Int.{w32, from_be_bytes}
use Rattle.std.specs.List.{range_with_len}
use Rattle.vault_aes.specs.Field.{mul}
use Rattle.vault_aes.specs.SubstitutionBox.{s_box}
use Rattle.vault_aes.specs.Cipher.{word_byte}

-- the word of four bytes (3.5)
abbrev pub word : ℕ → ℕ → ℕ → ℕ → ℕ
word a b c d = from_be_bytes w32 (a ∷ b ∷ c ∷ d ∷ [])

-- SubWord (5.2): S of each byte
unfoldable pub sub_word : ℕ → ℕ
sub_word w =
    word (s_box (word_byte w 0)) (s_box (word_byte w 1)) (s_box (word_byte w 2))
    (s_box (word_byte w 3))

-- RotWord (5.2): the bytes a b c d become b c d a
unfoldable pub rot_word : ℕ → ℕ
rot_word w = word (word_byte w 1) (word_byte w 2) (word_byte w 3) (word_byte w 0)

-- x^n in the field, where x is 2 (4.2)
unfoldable pub power_of_x : ℕ → ℕ
power_of_x zero = 1
power_of_x (suc n) = mul 2 (power_of_x n)

-- Rcon[j] (5.2), for j from 1: the bytes x^(j - 1), 0, 0, 0
unfoldable pub round_constant : ℕ → ℕ
round_constant j = word (power_of_x (j - 1)) 0 0 0

-- the word that is added to word i - 8 to make word i, computed from word i - 1 (5.2)
unfoldable pub schedule_step : ℕ → ℕ → ℕ
schedule_step i previous =
    if i % 8 == 0 then bit_xor (sub_word (rot_word previous)) (round_constant (i / 8))
    else if i % 8 == 4 then sub_word previous
    else previous

-- word i, from the words before it (5.2)
unfoldable pub next_word : List ℕ → ℕ → ℕ
next_word words i =
    bit_xor (slice_index words (i - 8)) (schedule_step i (slice_index words (i - 1)))

-- word i of the key itself (5.2)
abbrev pub key_word : List ℕ → ℕ → ℕ
key_word key i =
    word (slice_index key (4 * i)) (slice_index key (4 * i + 1)) (slice_index key (4 * i + 2))
    (slice_index key (4 * i + 3))

-- the first 8 + n words of the key schedule (5.2)
unfoldable pub first_words : List ℕ → ℕ → List ℕ
first_words key zero = map (key_word key) (range_with_len 0 8)
first_words key (suc n) = first_words key n ++ next_word (first_words key n) (8 + n) ∷ []

-- the 60 words of the key schedule of a key of 32 bytes (5.2)
unfoldable pub key_schedule : List ℕ → List ℕ
key_schedule key = first_words key 52
