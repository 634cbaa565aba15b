-- A list to which a stream is added, part by part.
use Rattle.std.proofs.Common.{◌≡◌, ℕ, suc, ◌+◌, ◌-◌, ◌*◌, ◌/◌, ◌%◌, ◌^◌, ◌<◌, ◌≤◌, List, [], ◌∷◌}
use Rattle.std.proofs.Common.{◌++◌, refl, sym, ap, ◌∙◌, arith, append_assoc, bit_xor, drop, length}
use Rattle.std.proofs.Common.{length-drop, length-take, slice_index, slice_set, take, take_all}
use Rattle.std.specs.Prelude.{map}
use Rattle.std.specs.Int.{w128, from_be_bytes, to_be_bytes}
use Rattle.std.specs.List.{range_with_len}
use Rattle.std.proofs.lemmas.List.{append-nil, drop_all, drop_more, drop-set-lt, take_more_set}
use Rattle.std.proofs.lemmas.List.Folds.{drop_split}
use Rattle.std.proofs.lemmas.List.FromFn.{length-map-range_with_len}
use Rattle.std.proofs.lemmas.Slice.{drop-put_mid, take-put_mid}
use borrow.Rule.Slice.PartMut.{put_mid}
use lib.Bits.{xor_assoc, xor_self, xor_zero_r}
use Rattle.vault_aes.specs.Cipher.{cipher}
use Rattle.vault_aes.specs.CounterMode.{counter_block, counter_mode, keystream_byte, xor_keystream}

-- the stream, from its byte n on, added to each byte
abbrev added_from : (ℕ → ℕ) → ℕ → List ℕ → List ℕ
added_from stream n [] = []
added_from stream n (x ∷ xs) = bit_xor x (stream n) ∷ added_from stream (n + 1) xs

added_from-append : (stream : ℕ → ℕ) (n m : ℕ) (xs ys : List ℕ) → n + length xs ≡ m
    → added_from stream n (xs ++ ys) ≡ added_from stream n xs ++ added_from stream m ys
added_from-append stream n m [] ys e = let at : n ≡ m = omega arith in rw at refl
added_from-append stream n m (x ∷ xs) ys e =
    ap (λ (zs : List ℕ). bit_xor x (stream n) ∷ zs)
    (added_from-append stream (n + 1) m xs ys (omega arith))

added_from-twice : (stream : ℕ → ℕ) (n : ℕ) (xs : List ℕ)
    → added_from stream n (added_from stream n xs) ≡ xs
added_from-twice stream n [] = refl
added_from-twice stream n (x ∷ xs) =
    let same : bit_xor (bit_xor x (stream n)) (stream n) ≡ x =
    rw (xor_assoc x (stream n) (stream n), xor_self (stream n)) (xor_zero_r x) in
    (λ i. same i ∷ added_from-twice stream (n + 1) xs i)

map-added_from : (f stream : ℕ → ℕ) (a n : ℕ) (xs : List ℕ)
    → ((i k j : ℕ) → k < length xs → a + k ≡ i → n + k ≡ j
    → f i ≡ bit_xor (slice_index xs k) (stream j))
    → map f (range_with_len a (length xs)) ≡ added_from stream n xs
map-added_from f stream a n [] same = refl
map-added_from f stream a n (x ∷ xs) same = (λ t.
    same a 0 n (omega arith) (omega arith) (omega arith) t
    ∷ map-added_from f stream (a + 1) (n + 1) xs
    (λ i k j lt ea en. same i (suc k) j (omega arith) (omega arith) (omega arith)) t)

-- a key stream that is the stream from byte n on
xor_keystream-added_from : (keystream stream : ℕ → ℕ) (n : ℕ) (xs : List ℕ)
    → ((k : ℕ) → k < length xs → keystream k ≡ stream (n + k))
    → xor_keystream keystream xs ≡ added_from stream n xs
xor_keystream-added_from keystream stream n xs same =
    map-added_from (λ i. bit_xor (slice_index xs i) (keystream i)) stream 0 n xs
    (λ i k j lt at from.
    let place : k ≡ i = omega arith in
    rw (← place, ← from) (ap (bit_xor (slice_index xs k)) (same k lt)))

length-xor_keystream : (stream : ℕ → ℕ) (xs : List ℕ)
    → length (xor_keystream stream xs) ≡ length xs
length-xor_keystream stream xs =
    length-map-range_with_len (λ i. bit_xor (slice_index xs i) (stream i)) 0 (length xs)

-- ---- a list to which the stream has been added as far as byte n

-- the list once the rest of the stream is added
abbrev pub completed : (ℕ → ℕ) → ℕ → List ℕ → List ℕ
completed stream n xs = take n xs ++ added_from stream n (drop n xs)

pub completed-none : (stream : ℕ → ℕ) (xs : List ℕ)
    → completed stream 0 xs ≡ xor_keystream stream xs
completed-none stream xs =
    sym (xor_keystream-added_from stream stream 0 xs (λ k lt. ap stream (omega arith)))

pub completed-all : (stream : ℕ → ℕ) (n : ℕ) (xs : List ℕ) → length xs ≤ n
    → completed stream n xs ≡ xs
completed-all stream n xs all = rw (take_all n xs all, drop_all n xs all) (append-nil xs)

-- one more byte
pub completed-more : (stream : ℕ → ℕ) (n : ℕ) (xs : List ℕ) → n < length xs
    → completed stream (n + 1) (slice_set xs n (bit_xor (slice_index xs n) (stream n)))
    ≡ completed stream n xs
completed-more stream n xs lt =
    let value : ℕ = bit_xor (slice_index xs n) (stream n) in
    rw (
      take_more_set xs n value lt,
      drop-set-lt (n + 1) xs n value (omega arith),
      append_assoc,
      drop_more xs n 0 lt,
    ) refl

-- a block of the key stream is the cipher of its counter block
keystream_byte-block : (words iv : List ℕ) (j k : ℕ) → k < 16
    → keystream_byte words iv (16 * j + k) ≡ slice_index (cipher words (counter_block iv j)) k
unfolding keystream_byte
keystream_byte-block words iv j k lt =
    let number : (16 * j + k) / 16 ≡ j = omega arith in
    let place : (16 * j + k) % 16 ≡ k = omega arith in
    rw (number, place) refl

-- one more part, with a block of the key stream
pub completed-block : (words iv : List ℕ) (j n : ℕ) (xs : List ℕ) {counter : ℕ}
    {bytes block part : List ℕ} → 16 * j ≤ n → n ≤ length xs → n ≤ 16 * j + 16
    → counter ≡ (from_be_bytes w128 iv + j) % 2 ^ 128 → bytes ≡ to_be_bytes w128 counter
    → block ≡ cipher words bytes
    → part ≡ xor_keystream (slice_index block) (take (n - 16 * j) (drop (16 * j) xs))
    → completed (keystream_byte words iv) n (put_mid (16 * j) (n - 16 * j) xs part)
    ≡ completed (keystream_byte words iv) (16 * j) xs
unfolding counter_block
completed-block words iv j n xs {block = block} {part = part} low high near number bytes from is =
    let stream = keystream_byte words iv in
    let under : block ≡ cipher words (counter_block iv j) =
    from ∙ ap (cipher words) (bytes ∙ ap (to_be_bytes w128) number) in
    let start : ℕ = 16 * j in
    let source : List ℕ = take (n - start) (drop start xs) in
    let size : length source ≡ n - start = simp (length-take, length-drop) (omega arith) in
    let long : length part ≡ n - start =
    ap length is ∙ length-xor_keystream (slice_index block) source ∙ size in
    let added : part ≡ added_from stream start source =
    is ∙ xor_keystream-added_from (slice_index block) stream start source (λ k lt.
    rw under (sym (keystream_byte-block words iv j k (omega (arith, size))))) in
    rw (
      take-put_mid start (n - start) xs part n (omega (arith, long)) (omega arith),
      drop-put_mid start (n - start) xs part n (omega arith) (omega arith) long,
      append_assoc,
      added,
      ← added_from-append stream start n source (drop n xs) (omega (arith, size)),
      ← drop_split xs start n low,
    ) refl

-- ---- laws

pub length-counter_mode : (words iv input : List ℕ)
    → length (counter_mode words iv input) ≡ length input
unfolding counter_mode
length-counter_mode words iv input = length-xor_keystream (keystream_byte words iv) input

-- counter mode undoes itself
pub counter_mode-counter_mode : (words iv input : List ℕ)
    → counter_mode words iv (counter_mode words iv input) ≡ input
unfolding counter_mode
counter_mode-counter_mode words iv input =
    let stream = keystream_byte words iv in
    sym (completed-none stream (xor_keystream stream input))
    ∙ ap (added_from stream 0) (sym (completed-none stream input)) ∙ added_from-twice stream 0 input
