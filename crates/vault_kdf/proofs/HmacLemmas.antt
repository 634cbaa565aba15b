-- HMAC: the key that is filled up to a block, and the length and the bytes of a tag.
use Rattle.std.proofs.Common.{ℕ, zero, suc, ◌<◌, inl, inr, List, length, lit<, arith, ◌≡◌, ◌≤◌}
use Rattle.std.proofs.Common.{◌++◌, replicate, drop, refl}
use Rattle.std.specs.Int.{to_be_bytes, w32}
use Rattle.std.specs.List.{All}
use Rattle.std.specs.Prelude.{slice_index}
use Rattle.std.proofs.lemmas.Bool.{cases_lt}
use Rattle.std.proofs.lemmas.List.{get_or_past, drop-replicate}
use Rattle.std.proofs.lemmas.List.Elements.{All-append, All-from_recursion, All-nil}
use Rattle.sha2.specs.Sha256.{digest_bytes, sha256}
use Rattle.vault_kdf.specs.Hmac.{hmac, padded_key, shortened_key}
use Rattle.std.proofs.lemmas.Bool.Decides.{nat_tests}
use Rattle.sha2.proofs.Facts256.{length-sha256}

shortened_key_long : (key : List ℕ) → 64 < length key → shortened_key key ≡ sha256 key
unfolding shortened_key
shortened_key_long key long = grind (arith, nat_tests)

shortened_key_short : (key : List ℕ) → length key ≤ 64 → shortened_key key ≡ key
unfolding shortened_key
shortened_key_short key short = grind (arith, nat_tests)

pub padded_key_long : (key digest : List ℕ) → 64 < length key → digest ≡ sha256 key
    → digest ++ replicate 32 0 ≡ padded_key key
unfolding padded_key
padded_key_long key digest long is_digest =
    rw (shortened_key_long key long, length-sha256 key, is_digest) refl

pub padded_key_short : (key prefix : List ℕ) → length key ≤ 64 → prefix ≡ key
    → prefix ++ drop (length key) (replicate 64 0) ≡ padded_key key
unfolding padded_key
padded_key_short key prefix short is_key =
    rw (shortened_key_short key short, drop-replicate {X = ℕ} (length key) 64 0, is_key) refl

pub length-hmac : (key message : List ℕ) → length (hmac key message) ≡ 32
unfolding hmac
length-hmac key message = length-sha256 _

word-bytes : (word : ℕ) → All (λ b. b < 256) (to_be_bytes w32 word)
word-bytes word =
    All-from_recursion (λ b. b < 256) (to_be_bytes w32 word)
    (omega arith, (omega arith, (omega arith, (omega arith, tt))))

digest-bytes : (h : List ℕ) (n : ℕ) → All (λ b. b < 256) (digest_bytes h n)
unfolding digest_bytes
digest-bytes h zero = All-nil (λ b. b < 256)
digest-bytes h (suc n) =
    All-append (λ b. b < 256) (digest_bytes h n) (to_be_bytes w32 (slice_index h n))
    (digest-bytes h n) (word-bytes (slice_index h n))

hmac-all_bytes : (key message : List ℕ) → All (λ b. b < 256) (hmac key message)
unfolding hmac sha256
hmac-all_bytes key message = digest-bytes _ 8

-- past its end a list reads as 0
pub hmac-bytes : (key message : List ℕ) (k : ℕ) → slice_index (hmac key message) k < 256
hmac-bytes key message k = elim (cases_lt k (length (hmac key message))) [
  | inl within ↦ hmac-all_bytes key message k 0 within
  | inr past ↦ rw (get_or_past (hmac key message) k 0 past) (lit< tt)
]
