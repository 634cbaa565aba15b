-- The exclusive or of byte strings: element by element, and one string more.
use Rattle.std.proofs.Common.{◌≡◌, ◌≢◌, ℕ, ◌+◌, ◌<◌, ◌≤◌, List, [], ◌∷◌, ◌++◌, length, get_or, set}
use Rattle.std.proofs.Common.{sym, ap, ◌∙◌, arith, below_more, get_or-set_same, get_or-set_other}
use Rattle.std.specs.Prelude.{bit_xor}
use Rattle.std.specs.List.{zip}
use Rattle.std.proofs.lemmas.List.{length-map, length-set, get_or-map, ext_get_or}
use Rattle.std.proofs.lemmas.List.Sums.{fold_push}
use Rattle.std.proofs.lemmas.Slice.Zip.{length-zip, get_or-zip}
use Rattle.vault_kdf.specs.Hmac.{xor}
use Rattle.vault_kdf.specs.Pbkdf2.{xor_all}

pub length-xor : (xs ys : List ℕ) → length ys ≡ length xs
    → length (xor xs ys) ≡ length xs
unfolding xor
length-xor xs ys same =
    omega (arith, length-map (zip xs ys) (λ (x, y). bit_xor x y), length-zip xs ys)

get_or-xor : (xs ys : List ℕ) (k : ℕ) → k < length xs → k < length ys
    → get_or (xor xs ys) k 0 ≡ bit_xor (get_or xs k 0) (get_or ys k 0)
unfolding xor
get_or-xor xs ys k in_xs in_ys =
    get_or-map (λ (x, y). bit_xor x y) (zip xs ys) k (0, 0) 0 (omega (arith, length-zip xs ys))
    ∙ ap (λ (p : ℕ × ℕ). bit_xor p.0 p.1) (get_or-zip xs ys k (0, 0) in_xs in_ys)

-- zs is the exclusive or of xs and ys below n, and xs from there on
pub record IsXorBelow (xs ys zs : List ℕ) (n : ℕ) : Type 0 where
  pub len : length zs ≡ length xs
  pub below : (k : ℕ) → k < n → get_or zs k 0 ≡ bit_xor (get_or xs k 0) (get_or ys k 0)
  pub rest : (k : ℕ) → n ≤ k → get_or zs k 0 ≡ get_or xs k 0

pub IsXorBelow_more : (xs ys zs : List ℕ) (n : ℕ) → n < length xs
    → IsXorBelow xs ys zs n
    → IsXorBelow xs ys (set zs n (bit_xor (get_or zs n 0) (get_or ys n 0))) (n + 1)
IsXorBelow_more xs ys zs n within so_far =
    let in_zs : n < length zs = omega (arith, so_far.len) in
    let last : ℕ = bit_xor (get_or zs n 0) (get_or ys n 0) in
    record {
      len = length-set zs n last ∙ so_far.len;
      below =
          below_more (λ k. get_or (set zs n last) k 0 ≡ bit_xor (get_or xs k 0) (get_or ys k 0)) n
          (λ k h. let other : k ≢ n = omega arith in
          get_or-set_other zs n k last 0 other ∙ so_far.below k h)
          (get_or-set_same zs n last 0 in_zs
          ∙ ap (λ (x : ℕ). bit_xor x (get_or ys n 0)) (so_far.rest n (omega arith)));
      rest = λ k h. let other : k ≢ n = omega arith in
          get_or-set_other zs n k last 0 other ∙ so_far.rest k (omega arith);
    }

pub IsXorBelow_all : (xs ys zs : List ℕ) (n : ℕ) → length ys ≡ length xs → length xs ≤ n
    → IsXorBelow xs ys zs n → zs ≡ xor xs ys
IsXorBelow_all xs ys zs n same all done =
    ext_get_or 0 zs (xor xs ys) (omega (arith, length-xor xs ys same, done.len))
    (λ k in_zs. done.below k (omega (arith, done.len))
    ∙ sym (get_or-xor xs ys k (omega (arith, done.len)) (omega (arith, done.len))))

-- one string more
pub xor_all_push : (strings : List (List ℕ)) (last : List ℕ) → 0 < length strings
    → xor_all (strings ++ last ∷ []) ≡ xor (xor_all strings) last
unfolding xor_all
xor_all_push [] last some = absurd (omega arith)
xor_all_push (first ∷ rest) last some = fold_push xor first rest last
