-- What a sink took, or a source gave, of one text after another.
use Rattle.std.proofs.Common.{◌≡◌, ℕ, ◌+◌, ◌-◌, List, [], ◌++◌, length, take, drop, arith}
use Rattle.std.proofs.Common.{min, Result}
use Rattle.std.specs.Prelude.{OnOk}
use Rattle.std.proofs.Math.Seq.{take-add, take-append-add}
use Rattle.std.proofs.lemmas.List.{take-append-le, take_rest, append-nil, take_min}
use Rattle.std.proofs.lemmas.Result.{on_ok_weaker}

-- a prefix of the first text is one of both
pub prefix_first : {A S : Type 0} (takes : S → List A → S → Type 0) (s t : S)
    (xs ys whole : List A)
    → xs ++ ys ≡ whole → (n : ℕ) × takes s (take n xs) t → (n : ℕ) × takes s (take n whole) t
prefix_first takes s t xs ys whole e (n, p) = (
  min n (length xs),
  rw (← e, take-append-le (min n (length xs)) xs ys (omega arith), take_min n xs) p,
)

module _ {A S : Type 0} (takes : S → List A → S → Type 0)
    (more : (s t u : S) (xs ys : List A) → takes s xs t → takes t ys u → takes s (xs ++ ys) u)
    (s t u : S) where
  -- after `done` bytes, the first n of the rest
  pub taken_next : (bytes : List A) (done n : ℕ) → takes s (take done bytes) t
      → takes t (take n (take (length bytes - done) (drop done bytes))) u
      → takes s (take (done + n) bytes) u
  taken_next bytes done n p q =
      rw (take-add done n bytes)
      (more s t u (take done bytes) (take n (drop done bytes)) p (rw take_rest at q))

  -- nothing more
  pub taken_none : (xs : List A) → takes s xs t → takes t [] u → takes s xs u
  taken_none xs p q = rw append-nil at (more s t u xs [] p q)

  -- the first text and a prefix of the second
  pub prefix_second : (xs ys whole : List A) → xs ++ ys ≡ whole → takes s xs t
      → (n : ℕ) × takes t (take n ys) u → (n : ℕ) × takes s (take n whole) u
  prefix_second xs ys whole e p (n, q) =
      (length xs + n, rw (← e) (rw (take-append-add xs ys n) (more s t u xs (take n ys) p q)))

  -- both texts
  pub takes_both : (xs ys whole : List A) → xs ++ ys ≡ whole → takes s xs t → takes t ys u
      → takes s whole u
  takes_both xs ys whole e p q = rw (← e) (more s t u xs ys p q)

  -- both texts, or the first and a prefix of the second
  pub takes_second : {T E : Type 0} (r : Result T E) (xs ys whole : List A) → xs ++ ys ≡ whole
      → takes s xs t → OnOk r (takes t ys u) → (n : ℕ) × takes t (take n ys) u
      → OnOk r (takes s whole u) × ((n : ℕ) × takes s (take n whole) u)
  takes_second r xs ys whole e p both prefix =
      (on_ok_weaker r (takes_both xs ys whole e p) both, prefix_second xs ys whole e p prefix)
