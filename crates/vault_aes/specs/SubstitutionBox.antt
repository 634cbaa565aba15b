-- The S-box of FIPS 197, section 5.1.1.
use Rattle.std.specs.Prelude.{ℕ, zero, suc, ◌+◌, ◌*◌, ◌%◌, ◌^◌}
use Rattle.std.specs.Int.{bit_at}
use Rattle.vault_aes.specs.Field.{inverse}

-- the constant byte c (5.1.1)
abbrev pub affine_constant : ℕ
affine_constant = 0x63

-- bit i of the affine transformation of b (5.1.1): the sum over GF(2) of five bits of b and one of
-- the constant
abbrev pub affine_bit : ℕ → ℕ → ℕ
affine_bit b i =
    (bit_at b i + bit_at b ((i + 4) % 8) + bit_at b ((i + 5) % 8) + bit_at b ((i + 6) % 8)
    + bit_at b ((i + 7) % 8) + bit_at affine_constant i) % 2

-- the number whose bit i is `bit i`, for each i below n
unfoldable pub number_of_bits : (ℕ → ℕ) → ℕ → ℕ
number_of_bits bit zero = 0
number_of_bits bit (suc n) = number_of_bits bit n + bit n * 2 ^ n

-- S of a byte: the affine transformation of its inverse (5.1.1)
unfoldable pub s_box : ℕ → ℕ
s_box a = number_of_bits (affine_bit (inverse a)) 8
