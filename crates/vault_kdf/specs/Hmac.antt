-- HMAC (RFC 2104, section 2). Its hash function H is SHA-256, whose blocks have 64 bytes.
use Rattle.std.specs.Prelude.{ℕ, ◌-◌, nat_lt, if◌then◌else◌, List, ◌++◌, length, replicate}
use Rattle.std.specs.Prelude.{map, bit_xor}
use Rattle.std.specs.List.{zip}
use Rattle.sha2.specs.Sha256.{sha256}
use Rattle.sha2.specs.Hashers.{Holds256}
use Rattle.vault_kdf.specs.declared.hmac_sha256.Hmac.{Hmac}

-- the exclusive or of two strings of the same length, byte by byte
unfoldable pub xor : List ℕ → List ℕ → List ℕ
xor xs ys = map (λ (x, y). bit_xor x y) (zip xs ys)

-- the key, or its hash if it is longer than a block
unfoldable pub shortened_key : List ℕ → List ℕ
shortened_key key = if nat_lt 64 (length key) then sha256 key else key

-- K, the key filled up to a block with zeros at its end (step 1)
unfoldable pub padded_key : List ℕ → List ℕ
padded_key key = shortened_key key ++ replicate (64 - length (shortened_key key)) 0

-- K XOR ipad (step 2)
unfoldable pub inner_key : List ℕ → List ℕ
inner_key key = xor (padded_key key) (replicate 64 0x36)

-- K XOR opad (step 5)
unfoldable pub outer_key : List ℕ → List ℕ
outer_key key = xor (padded_key key) (replicate 64 0x5c)

-- H(K XOR opad, H(K XOR ipad, text))
unfoldable pub hmac : List ℕ → List ℕ → List ℕ
hmac key message = sha256 (outer_key key ++ sha256 (inner_key key ++ message))

-- the state stands for the key and the message so far
unfoldable pub HasRead : Hmac → List ℕ → List ℕ → Type 0
HasRead state key message =
    Holds256 state.inner (inner_key key ++ message) × Holds256 state.outer (outer_key key)
