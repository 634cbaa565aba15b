-- PBKDF2: the rounds of one block, how long blocks are, and blocks written one after another.
use Rattle.std.proofs.Common.{◌≡◌, ℕ, ◌+◌, ◌≤◌, List, [], ◌∷◌, ◌++◌, length, refl, sym, ap, ◌∙◌}
use Rattle.std.proofs.Common.{arith, add-one, zero, suc, ◌-◌, ◌*◌, ◌<◌, inl, inr, min, take, drop}
use Rattle.std.proofs.lemmas.List.FromFn.{length-map-range_with_len, map-range_with_len_more}
use Rattle.std.specs.Int.{to_be_bytes, w32, div_ceil}
use Rattle.vault_kdf.specs.Hmac.{hmac, xor}
use Rattle.vault_kdf.specs.Pbkdf2.{block, iterate, iterates, xor_all}
use Rattle.vault_kdf.proofs.XorLemmas.{xor_all_push, length-xor}
use Rattle.std.specs.List.{concat, range_with_len}
use Rattle.std.specs.Prelude.{map}
use Rattle.std.proofs.lemmas.List.{append-nil, length-append, length-drop, length-take-le, take_all}
use Rattle.std.proofs.lemmas.List.{take_at, nil_from_length}
use Rattle.std.proofs.lemmas.List.Folds.{concat-append}
use Rattle.std.proofs.Math.Seq.{take-append-add}
use Rattle.std.proofs.lemmas.Bool.{cases_lt}
use borrow.Rule.Slice.PartMut.{put_mid}
use Rattle.vault_kdf.proofs.HmacLemmas.{length-hmac}

-- after j rounds: the last iterate, and the exclusive or of all
pub record IsAfterRounds (password message last sum : List ℕ) (j : ℕ) : Type 0 where
  pub last_is : last ≡ iterate password message j
  pub sum_is : sum ≡ xor_all (iterates password message j)

pub IsAfterRounds_one : (password message first : List ℕ) → first ≡ hmac password message
    → IsAfterRounds password message first first 1
unfolding iterate iterates xor_all
IsAfterRounds_one password message first is_first = record { last_is = is_first; sum_is = is_first }

pub iterates_more : (password message : List ℕ) (j : ℕ)
    → iterates password message (j + 1)
    ≡ iterates password message j ++ iterate password message (j + 1) ∷ []
unfolding iterates
iterates_more password message j =
    map-range_with_len_more (iterate password message) 1 j (j + 1) (omega arith)

pub length-iterates : (password message : List ℕ) (j : ℕ) → length (iterates password message j) ≡ j
unfolding iterates
length-iterates password message j = length-map-range_with_len (iterate password message) 1 j

pub iterate_more : (password message : List ℕ) (j : ℕ)
    → iterate password message (j + 1) ≡ hmac password (iterate password message j)
unfolding iterate
iterate_more password message j = rw add-one refl

pub IsAfterRounds_more : (password message last sum next total : List ℕ) (j : ℕ) → 1 ≤ j
    → IsAfterRounds password message last sum j
    → next ≡ hmac password last → total ≡ xor sum next
    → IsAfterRounds password message next total (j + 1)
IsAfterRounds_more password message last sum next total j some so_far is_next is_total =
    let at : next ≡ iterate password message (j + 1) =
    is_next ∙ ap (hmac password) so_far.last_is ∙ sym (iterate_more password message j) in
    let pushed : xor_all (iterates password message j ++ next ∷ [])
    ≡ xor (xor_all (iterates password message j)) next =
    xor_all_push (iterates password message j) next
    (omega (arith, length-iterates password message j)) in
    record {
      last_is = at;
      sum_is = rw (iterates_more password message j, ← at, pushed, ← so_far.sum_is) is_total;
    }

pub IsAfterRounds-block : (password salt : List ℕ) (c i : ℕ) (last sum : List ℕ) (j : ℕ)
    → IsAfterRounds password (salt ++ to_be_bytes w32 i) last sum j → j ≡ c
    → sum ≡ block password salt c i
unfolding block
IsAfterRounds-block password salt c i last sum j all is_c = rw (← is_c) all.sum_is

-- the exclusive or of the first j + 1 iterates
length-sum : (password message : List ℕ) (j : ℕ)
    → length (xor_all (iterates password message (j + 1))) ≡ 32
unfolding iterates iterate xor_all
length-sum password message zero = length-hmac password message
length-sum password message (suc j) =
    let sum : List ℕ = xor_all (iterates password message (j + 1)) in
    let last : List ℕ = iterate password message (j + 1 + 1) in
    let pushed : xor_all (iterates password message (j + 1 + 1)) ≡ xor sum last =
    ap xor_all (iterates_more password message (j + 1))
    ∙ xor_all_push (iterates password message (j + 1)) last
    (omega (arith, length-iterates password message (j + 1))) in
    let len_last : length last ≡ 32 =
    ap length (iterate_more password message (j + 1))
    ∙ length-hmac password (iterate password message (j + 1)) in
    let before : length sum ≡ 32 = length-sum password message j in
    let count : suc j + 1 ≡ j + 1 + 1 = omega arith in
    ap (λ (k : ℕ). length (xor_all (iterates password message k))) count
    ∙ ap length pushed ∙ length-xor sum last (len_last ∙ sym before) ∙ before

pub length-block : (password salt : List ℕ) (c i : ℕ) → 1 ≤ c
    → length (block password salt c i) ≡ 32
unfolding block
length-block password salt c i some =
    let whole : c ≡ c - 1 + 1 = omega arith in
    ap (λ (k : ℕ). length (xor_all (iterates password (salt ++ to_be_bytes w32 i) k)))
    whole
    ∙ length-sum password (salt ++ to_be_bytes w32 i) (c - 1)

-- the blocks from an index on
abbrev pub blocks_from : List ℕ → List ℕ → ℕ → ℕ → ℕ → List (List ℕ)
blocks_from password salt c first l = map (block password salt c) (range_with_len first l)

concat-blocks_more : (password salt : List ℕ) (c first i : ℕ)
    → concat (blocks_from password salt c first (i + 1))
    ≡ concat (blocks_from password salt c first i) ++ block password salt c (first + i)
concat-blocks_more password salt c first i =
    ap concat (map-range_with_len_more (block password salt c) first i (first + i) (omega arith))
    ∙ concat-append (blocks_from password salt c first i) (block password salt c (first + i) ∷ [])
    ∙ ap (λ (last : List ℕ). concat (blocks_from password salt c first i) ++ last)
    (append-nil (block password salt c (first + i)))

length-concat-blocks : (password salt : List ℕ) (c first l : ℕ) → 1 ≤ c
    → length (concat (blocks_from password salt c first l)) ≡ l * 32
length-concat-blocks password salt c first zero some = refl
length-concat-blocks password salt c first (suc l) some =
    let joined : concat (blocks_from password salt c first (suc l))
    ≡ concat (blocks_from password salt c first l) ++ block password salt c (first + l) =
    rw add-one at (concat-blocks_more password salt c first l) in
    ap length joined
    ∙ length-append (concat (blocks_from password salt c first l))
    (block password salt c (first + l))
    ∙ omega (
      arith,
      length-concat-blocks password salt c first l some,
      length-block password salt c (first + l) some,
    )

-- the first i of them stand in the output, as far as it reaches
abbrev pub HasBlocks : List ℕ → List ℕ → ℕ → ℕ → List ℕ → ℕ → Type 0
HasBlocks password salt c first out i =
    take (i * 32) out ≡ take (length out) (concat (blocks_from password salt c first i))

pub HasBlocks_none : (password salt : List ℕ) (c first : ℕ) (out : List ℕ)
    → HasBlocks password salt c first out 0
HasBlocks_none password salt c first out = sym (take_all (length out) [] (omega arith))

-- a prefix of a list that ends past its first part
pub take_past : (n m k : ℕ) (xs ys : List ℕ) → length xs ≡ m → n ≡ m + k
    → take n (xs ++ ys) ≡ xs ++ take k ys
take_past n m k xs ys len is_n =
    let at : n ≡ length xs + k = omega arith in
    ap (λ (l : ℕ). take l (xs ++ ys)) at ∙ take-append-add xs ys k

-- a block as far as n bytes reach, and what stands after it if they reach further
take_part : (n k : ℕ) (next rest : List ℕ) → length next ≡ 32 → k ≡ min n 32 → length rest ≡ n - k
    → take 32 (take k next ++ rest) ≡ take n next
take_part n k next rest len is_k is_rest = elim (cases_lt n 32) [
  | inl short ↦ (
      let all : k ≡ n = omega arith in
      let none : rest ≡ [] = nil_from_length rest (omega arith) in
      rw (none, append-nil, all)
      (take_all 32 (take n next) (omega (arith, length-take-le n next (omega arith))))
      )
  | inr whole ↦ (
      let all : k ≡ 32 = omega arith in
      rw (all, take_all 32 next (omega arith), take_all n next (omega arith))
      (take_at next rest 32 len)
      )
]

pub HasBlocks_more : (password salt : List ℕ) (c first : ℕ) (out next written : List ℕ)
    (i end : ℕ)
    → 1 ≤ c → HasBlocks password salt c first out i → i < div_ceil (length out) 32
    → next ≡ block password salt c (first + i) → length next ≡ 32
    → end ≡ min (length out) (i * 32 + 32)
    → written ≡ take (end - i * 32) next
    → HasBlocks password salt c first (put_mid (i * 32) (end - i * 32) out written) (i + 1)
HasBlocks_more password salt c first out next written i end some so_far within is_next len is_end
    is_written =
    let before : List ℕ = concat (blocks_from password salt c first i) in
    let len_before : length before ≡ i * 32 = length-concat-blocks password salt c first i some in
    let rest : List ℕ = drop (end - i * 32) (drop (i * 32) out) in
    let joined : concat (blocks_from password salt c first (i + 1)) ≡ before ++ next =
    rw is_next (concat-blocks_more password salt c first i) in
    let starts : i * 32 < length out = omega arith in
    let prefix : take (i * 32) out ≡ before = so_far ∙ take_all (length out) before (omega arith) in
    let len_written : length written ≡ end - i * 32 =
    ap length is_written ∙ length-take-le (end - i * 32) next (omega arith) in
    let len_rest : length rest ≡ length out - end =
    omega (arith, length-drop (end - i * 32) (drop (i * 32) out), length-drop (i * 32) out) in
    let len_out : length (put_mid (i * 32) (end - i * 32) out written) ≡ length out =
    omega (
      arith,
      length-append (take (i * 32) out) (written ++ rest),
      length-append written rest,
      length-take-le (i * 32) out (omega arith),
      len_written,
      len_rest,
    ) in
    let left : ℕ = length out - i * 32 in
    let part : take 32 (written ++ rest) ≡ take left next =
    rw is_written
    (take_part left (end - i * 32) next rest len (omega arith) (omega (arith, len_rest))) in
    let past : take ((i + 1) * 32) (before ++ (written ++ rest))
    ≡ before ++ take 32 (written ++ rest) =
    take_past ((i + 1) * 32) (i * 32) 32 before (written ++ rest) len_before (omega arith) in
    let filled : take ((i + 1) * 32) (put_mid (i * 32) (end - i * 32) out written)
    ≡ before ++ take left next =
    rw (prefix, past, part) refl in
    let wanted : take (length out) (before ++ next) ≡ before ++ take left next =
    take_past (length out) (i * 32) left before next len_before (omega arith) in
    filled ∙ sym (rw (len_out, joined) wanted)

pub HasBlocks_all : (password salt : List ℕ) (c first : ℕ) (out : List ℕ) (i : ℕ)
    → HasBlocks password salt c first out i → i ≡ div_ceil (length out) 32
    → out
    ≡ take (length out) (concat (blocks_from password salt c first (div_ceil (length out) 32)))
HasBlocks_all password salt c first out i so_far all =
    let past : length out ≤ i * 32 = omega arith in
    sym (take_all (i * 32) out past) ∙ so_far
    ∙ ap (λ (l : ℕ). take (length out) (concat (blocks_from password salt c first l))) all
