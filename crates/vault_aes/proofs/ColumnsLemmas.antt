-- The four columns that the code makes, as the state of the standard.
use Rattle.std.proofs.Common.{◌≡◌, ℕ, ◌+◌, List, ◌++◌, ◌∙◌, refl, add-one, slice_index}
use Rattle.vault_aes.specs.Cipher.{round, rounds}

-- the columns that f makes of the bytes that ShiftRows brings together, of the columns a, b, c, d
abbrev pub shifted : (ℕ → ℕ → ℕ → ℕ → ℕ → List ℕ) → List ℕ → List ℕ → List ℕ → List ℕ
    → ℕ → ℕ → ℕ → ℕ → List ℕ
shifted f a b c d k0 k1 k2 k3 =
    f (slice_index a 0) (slice_index b 1) (slice_index c 2) (slice_index d 3) k0
    ++ f (slice_index b 0) (slice_index c 1) (slice_index d 2) (slice_index a 3) k1
    ++ f (slice_index c 0) (slice_index d 1) (slice_index a 2) (slice_index b 3) k2
    ++ f (slice_index d 0) (slice_index a 1) (slice_index b 2) (slice_index c 3) k3

-- one more round
pub rounds-more : (words block : List ℕ) (n k : ℕ) {state next : List ℕ} → k ≡ n + 1
    → state ≡ rounds words block n → next ≡ round words k state → next ≡ rounds words block k
unfolding rounds
rounds-more words block n k e held step = step ∙ rw (held, e, add-one) refl
