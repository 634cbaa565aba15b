-- Counter mode (SP 800-38A, section 6.5), with the standard incrementing function over all 128
-- bits of the counter block (appendix B.1).
use Rattle.std.specs.Prelude.{ℕ, ◌+◌, ◌/◌, ◌%◌, ◌^◌, List, bit_xor, length, map, slice_index}
use Rattle.std.specs.Int.{w128, from_be_bytes, to_be_bytes}
use Rattle.std.specs.List.{range_with_len}
use Rattle.vault_aes.specs.Cipher.{cipher}

-- counter block j, T_(j + 1), from the initial one, T_1: the counter is a big-endian number of
-- 16 bytes (B.1)
unfoldable pub counter_block : List ℕ → ℕ → List ℕ
counter_block iv j = to_be_bytes w128 ((from_be_bytes w128 iv + j) % 2 ^ 128)

-- byte i of the key stream: the output blocks O_1, O_2, … joined (6.5)
unfoldable pub keystream_byte : List ℕ → List ℕ → ℕ → ℕ
keystream_byte words iv i = slice_index (cipher words (counter_block iv (i / 16))) (i % 16)

-- the input with each byte XORed with the key stream's byte at its place
abbrev pub xor_keystream : (ℕ → ℕ) → List ℕ → List ℕ
xor_keystream keystream input =
    map (λ i. bit_xor (slice_index input i) (keystream i)) (range_with_len 0 (length input))

-- the input XORed with the key stream, under the words of a key schedule: this turns a plaintext
-- into the ciphertext, and back. Only as many bytes of the last output block are used as the input
-- has left (6.5).
unfoldable pub counter_mode : List ℕ → List ℕ → List ℕ → List ℕ
counter_mode words iv input = xor_keystream (keystream_byte words iv) input
