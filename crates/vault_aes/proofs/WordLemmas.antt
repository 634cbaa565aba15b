-- The bytes of numbers.
use Rattle.std.proofs.Common.{◌≡◌, ℕ, ◌+◌, ◌*◌, ◌/◌, ◌%◌, ◌^◌, ◌<◌, List, [], ◌∷◌, ◌++◌, refl, ap}
use Rattle.std.proofs.Common.{arith, bit_xor, slice_index, sym, pow_pos, shr-shr, ◌∙◌}
use Rattle.std.proofs.lemmas.Nat.{field_of, mod-pow-add, mod_below, mod_low, xor_mod, xor_shr}
use Rattle.std.specs.Int.{w32, w64, w128, to_be_bytes}

-- the sum of two columns
abbrev pub added : List ℕ → List ℕ → List ℕ
added a b =
    bit_xor (slice_index a 0) (slice_index b 0) ∷ bit_xor (slice_index a 1) (slice_index b 1)
    ∷ bit_xor (slice_index a 2) (slice_index b 2) ∷ bit_xor (slice_index a 3) (slice_index b 3) ∷ []

xor_byte : (x y k : ℕ)
    → bit_xor x y / 2 ^ k % 2 ^ 8 ≡ bit_xor (x / 2 ^ k % 2 ^ 8) (y / 2 ^ k % 2 ^ 8)
xor_byte x y k = ap (λ (n : ℕ). n % 2 ^ 8) (xor_shr x y k) ∙ xor_mod (x / 2 ^ k) (y / 2 ^ k) 8

-- the bytes of a sum, from those of its parts
pub to_be_bytes-bit_xor : (x y : ℕ) {xs ys : List ℕ} → to_be_bytes w32 x ≡ xs
    → to_be_bytes w32 y ≡ ys → to_be_bytes w32 (bit_xor x y) ≡ added xs ys
to_be_bytes-bit_xor x y ex ey =
    (λ i. xor_byte x y 24 i ∷ xor_byte x y 16 i ∷ xor_byte x y 8 i ∷ xor_mod x y 8 i ∷ [])
    ∙ (λ i. added (ex i) (ey i))

-- ---- a number of 16 bytes, from its halves

high_byte : (n k : ℕ) → n / 2 ^ 64 / 2 ^ k % 2 ^ 8 ≡ n / 2 ^ (64 + k) % 2 ^ 8
high_byte n k = ap (λ (x : ℕ). x % 2 ^ 8) (shr-shr n 64 k)

low_byte : (n j k : ℕ) → j + (8 + k) ≡ 64 → n % 2 ^ 64 / 2 ^ k % 2 ^ 8 ≡ n / 2 ^ k % 2 ^ 8
low_byte n j k all =
    let width : 64 ≡ j + 8 + k = omega arith in
    ap (λ (w : ℕ). n % 2 ^ w / 2 ^ k % 2 ^ 8) width
    ∙ rw (field_of n (j + 8) k, mod-pow-add (n / 2 ^ k) j 8)
    (mod_low _ 8 _ (mod_below (n / 2 ^ k) (2 ^ 8) (pow_pos 8)))

to_be_bytes-halves : (n : ℕ)
    → to_be_bytes w64 (n / 2 ^ 64) ++ to_be_bytes w64 (n % 2 ^ 64) ≡ to_be_bytes w128 n
to_be_bytes-halves n =
    let last : n % 2 ^ 64 % 2 ^ 8 ≡ n % 2 ^ 8 = omega arith in
    (λ i. high_byte n 56 i ∷ high_byte n 48 i ∷ high_byte n 40 i ∷ high_byte n 32 i
    ∷ high_byte n 24 i ∷ high_byte n 16 i ∷ high_byte n 8 i ∷ n / 2 ^ 64 % 2 ^ 8
    ∷ low_byte n 0 56 refl i ∷ low_byte n 8 48 refl i ∷ low_byte n 16 40 refl i
    ∷ low_byte n 24 32 refl i ∷ low_byte n 32 24 refl i ∷ low_byte n 40 16 refl i
    ∷ low_byte n 48 8 refl i ∷ last i ∷ [])

-- the same, of two words
pub to_be_bytes-words : (high low : ℕ) → low < 2 ^ 64
    → to_be_bytes w64 high ++ to_be_bytes w64 low ≡ to_be_bytes w128 (high * 2 ^ 64 + low)
to_be_bytes-words high low small =
    let n : ℕ = high * 2 ^ 64 + low in
    let is_high : n / 2 ^ 64 ≡ high = omega arith in
    let is_low : n % 2 ^ 64 ≡ low = omega arith in
    (λ i. to_be_bytes w64 (sym is_high i) ++ to_be_bytes w64 (sym is_low i)) ∙ to_be_bytes-halves n
