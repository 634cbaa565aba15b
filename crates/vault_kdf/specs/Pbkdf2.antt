-- PBKDF2 (RFC 8018, section 5.2). Its pseudorandom function is HMAC-SHA-256, whose output has 32
-- bytes.
use Rattle.std.specs.Prelude.{ℕ, zero, suc, List, [], ◌∷◌, ◌++◌, map, fold, take}
use Rattle.std.specs.List.{concat, range_with_len}
use Rattle.std.specs.Int.{div_ceil, to_be_bytes, w32}
use Rattle.vault_kdf.specs.Hmac.{hmac, xor}

-- U_j, the tag of the iterate before it (step 3). U_0 stands for the message whose tag is U_1.
unfoldable pub iterate : List ℕ → List ℕ → ℕ → List ℕ
iterate password message zero = message
iterate password message (suc j) = hmac password (iterate password message j)

-- U_1 to U_c (step 3)
unfoldable pub iterates : List ℕ → List ℕ → ℕ → List (List ℕ)
iterates password message c = map (iterate password message) (range_with_len 1 c)

-- the exclusive or of all strings of a list
unfoldable pub xor_all : List (List ℕ) → List ℕ
xor_all [] = []
xor_all (xs ∷ rest) = fold xor xs rest

-- T_i, which is F (P, S, c, i): the exclusive or of U_1 to U_c; U_1 is the tag of the salt followed
-- by i as four big-endian bytes (step 3)
unfoldable pub block : List ℕ → List ℕ → ℕ → ℕ → List ℕ
block password salt c i = xor_all (iterates password (salt ++ to_be_bytes w32 i) c)

-- T_1 to T_l (step 3)
unfoldable pub blocks : List ℕ → List ℕ → ℕ → ℕ → List (List ℕ)
blocks password salt c l = map (block password salt c) (range_with_len 1 l)

-- the first n bytes of the joined blocks, of which there are n / 32, rounded up (steps 2 and 4)
unfoldable pub pbkdf2 : List ℕ → List ℕ → ℕ → ℕ → List ℕ
pbkdf2 password salt c n = take n (concat (blocks password salt c (div_ceil n 32)))
