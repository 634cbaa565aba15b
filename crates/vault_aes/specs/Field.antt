-- The field GF(2^8) of FIPS 197, section 4. A byte is a polynomial over GF(2) of degree below 8:
-- bit i is the coefficient of x^i. The sum of two polynomials is `bit_xor` (4.1).
use Rattle.std.specs.Prelude.{ℕ, zero, suc, ◌+◌, ◌*◌, ◌^◌, bit_xor}
use Rattle.std.specs.Int.{bit_at}

-- the product of two polynomials (4.2): the sum of b · x^i over each bit i that is set among the
-- lowest n bits of a
unfoldable pub polynomial_product : ℕ → ℕ → ℕ → ℕ
polynomial_product a b zero = 0
polynomial_product a b (suc i) = bit_xor (polynomial_product a b i) (bit_at a i * (b * 2 ^ i))

-- m(x) = x^8 + x^4 + x^3 + x + 1 (4.2)
abbrev pub modulus : ℕ
modulus = 0x11b

-- the remainder modulo m(x) of a polynomial of degree below 8 + n (4.2): from the highest degree
-- down, m(x) · x^k is added if the coefficient of x^(8 + k) is 1
unfoldable pub remainder : ℕ → ℕ → ℕ
remainder p zero = p
remainder p (suc k) = remainder (bit_xor p (bit_at p (8 + k) * (modulus * 2 ^ k))) k

-- the product in the field (4.2)
unfoldable pub mul : ℕ → ℕ → ℕ
mul a b = remainder (polynomial_product a b 8) 7

-- the square in the field
abbrev pub square : ℕ → ℕ
square a = mul a a

-- a^(2^n): a squared n times
unfoldable pub repeated_square : ℕ → ℕ → ℕ
repeated_square a zero = a
repeated_square a (suc n) = square (repeated_square a n)

-- a^2 · a^4 · … · a^(2^n)
unfoldable pub product_of_squares : ℕ → ℕ → ℕ
product_of_squares a zero = 1
product_of_squares a (suc n) = mul (product_of_squares a n) (repeated_square a (suc n))

-- the inverse (4.4): a^254 = a^2 · a^4 · … · a^128. So the inverse of 0 is 0.
unfoldable pub inverse : ℕ → ℕ
inverse a = product_of_squares a 7
