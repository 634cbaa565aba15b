-- What is sealed has only bytes.
use Rattle.std.proofs.Common.{ℕ, ◌+◌, ◌*◌, ◌-◌, ◌%◌, ◌<◌, List, length, lit<, arith, inl, inr}
use Rattle.std.proofs.Common.{replicate, take}
use Rattle.std.specs.Prelude.{slice_index}
use Rattle.std.specs.List.{All, range_with_len}
use Rattle.std.specs.Int.{to_be_bytes, w32}
use Rattle.std.proofs.lemmas.Bool.{cases_lt}
use Rattle.std.proofs.lemmas.List.{get_or_default, get_or_past}
use Rattle.std.proofs.lemmas.List.Elements.{All-append, All-from_recursion, All-map}
use Rattle.std.proofs.lemmas.List.Elements.{All-replicate, All-take}
use Rattle.std.proofs.lemmas.Nat.{xor_lt}
use Rattle.vault_aes.specs.Cipher.{add_round_key, cipher, entry, matrix}
use Rattle.vault_aes.specs.Cipher.{shift_rows, sub_bytes, word_byte}
use Rattle.vault_aes.specs.CounterMode.{counter_mode, keystream_byte}
use Rattle.vault_aes.specs.SubstitutionBox.{number_of_bits, s_box}
use Rattle.vault_core.specs.Laws.{IsBytes}
use Rattle.vault_aes.specs.Padding.{padded}

abbrev AllBytes : List ℕ → Type 0
AllBytes xs = All (λ b. b < 256) xs

-- past its end a list reads as 0
IsBytes-from_All : (xs : List ℕ) → AllBytes xs → IsBytes xs
IsBytes-from_All xs all i = elim (cases_lt i (length xs)) [
  | inl within ↦ all i 0 within
  | inr past ↦ rw (get_or_past xs i 0 past) (lit< tt)
]

All-from_IsBytes : (xs : List ℕ) → IsBytes xs → AllBytes xs
All-from_IsBytes xs bytes i d within = rw (get_or_default xs i d 0 within) (bytes i)

-- ---- the cipher of AES

-- the four entries of a column, and what is said of those after it
column-bytes : {Rest : Type 0} (f : ℕ → ℕ → ℕ) → ((r c : ℕ) → f r c < 256) → (c : ℕ) → Rest
    → (f 0 c < 256) × ((f 1 c < 256) × ((f 2 c < 256) × ((f 3 c < 256) × Rest)))
column-bytes f h c rest = (h 0 c, (h 1 c, (h 2 c, (h 3 c, rest))))

matrix-bytes : (f : ℕ → ℕ → ℕ) → ((r c : ℕ) → f r c < 256) → IsBytes (matrix f)
matrix-bytes f h =
    IsBytes-from_All (matrix f) (All-from_recursion (λ b. b < 256) (matrix f)
    (column-bytes f h 0 (column-bytes f h 1 (column-bytes f h 2 (column-bytes f h 3 tt)))))

eight_bits : (bit : ℕ → ℕ) → ((i : ℕ) → bit i < 2) → number_of_bits bit 8 < 256
unfolding number_of_bits
eight_bits bit small =
    omega (arith, small 0, small 1, small 2, small 3, small 4, small 5, small 6, small 7)

s_box-byte : (a : ℕ) → s_box a < 256
unfolding s_box
s_box-byte a = eight_bits _ (λ i. omega arith)

word_byte-byte : (word r : ℕ) → word_byte word r < 256
word_byte-byte word r =
    IsBytes-from_All (to_be_bytes w32 word)
    (All-from_recursion (λ b. b < 256) (to_be_bytes w32 word)
    (omega arith, (omega arith, (omega arith, (omega arith, tt))))) r

sub_bytes-bytes : (state : List ℕ) → IsBytes (sub_bytes state)
unfolding sub_bytes
sub_bytes-bytes state = matrix-bytes _ (λ r c. s_box-byte (entry state r c))

shift_rows-bytes : (state : List ℕ) → IsBytes state → IsBytes (shift_rows state)
unfolding shift_rows
shift_rows-bytes state bytes = matrix-bytes _ (λ r c. bytes (r + 4 * ((c + r) % 4)))

add_round_key-bytes : (words : List ℕ) (n : ℕ) (state : List ℕ) → IsBytes state
    → IsBytes (add_round_key words n state)
unfolding add_round_key
add_round_key-bytes words n state bytes =
    matrix-bytes _ (λ r c. xor_lt 8 (entry state r c) _ (bytes (r + 4 * c))
    (word_byte-byte (slice_index words (4 * n + c)) r))

cipher-bytes : (words block : List ℕ) → IsBytes (cipher words block)
unfolding cipher
cipher-bytes words block = add_round_key-bytes words 14 _ (shift_rows-bytes _ (sub_bytes-bytes _))

-- ---- counter mode and padding

keystream_byte-byte : (words iv : List ℕ) (i : ℕ) → keystream_byte words iv i < 256
unfolding keystream_byte
keystream_byte-byte words iv i = cipher-bytes words _ (i % 16)

pub counter_mode-bytes : (words iv input : List ℕ) → IsBytes input
    → IsBytes (counter_mode words iv input)
unfolding counter_mode
counter_mode-bytes words iv input bytes =
    IsBytes-from_All _ (All-map (λ b. b < 256) _ (range_with_len 0 (length input))
    (λ k d inside. xor_lt 8 _ _ (bytes _) (keystream_byte-byte words iv _)))

pub padded-bytes : (plain : List ℕ) → IsBytes plain → IsBytes (padded plain)
unfolding padded
padded-bytes plain bytes =
    let count : ℕ = 16 - length plain % 16 in
    IsBytes-from_All _ (All-append (λ b. b < 256) plain (replicate count count)
    (All-from_IsBytes plain bytes) (All-replicate (λ b. b < 256) count count (omega arith)))

pub take-bytes : (n : ℕ) (bytes : List ℕ) → IsBytes bytes → IsBytes (take n bytes)
take-bytes n bytes all =
    IsBytes-from_All _ (All-take (λ b. b < 256) n bytes (All-from_IsBytes bytes all))
