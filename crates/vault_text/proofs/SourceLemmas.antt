-- What a source gave into a buffer, piece by piece.
use Rattle.std.proofs.Common.{◌≡◌, ℕ, ◌+◌, ◌-◌, ◌≤◌, List, ◌++◌, length, take, drop, ◌∙◌, arith}
use Rattle.std.proofs.Common.{length-append, length-drop, length-take, refl}
use Rattle.std.proofs.Math.Seq.{take-append-add}
use Rattle.std.proofs.lemmas.List.{length-take-le, take-append-le, take_rest}
use Rattle.std.proofs.lemmas.Slice.{take-put_mid_below}
use borrow.Rule.Slice.PartMut.{put_mid, post_of}
use Rattle.vault_text.proofs.SinkLemmas.{taken_none}

-- the prefix of a buffer whose part from `filled` on was written
pub take-written : (filled n k : ℕ) (old part : List ℕ) → filled ≤ length old → n ≤ length part
    → take (filled + n) (put_mid filled k old part) ≡ take filled old ++ take n part
take-written filled n k old part inside fits =
    let len : length (take filled old) ≡ filled = length-take-le filled old inside in
    rw len at (take-append-add (take filled old) (part ++ post_of filled k old) n)
    ∙ rw (take-append-le n part (post_of filled k old) fits) refl

-- a buffer keeps its length if a part of it was written
pub length-part_written : (done k : ℕ) (bytes piece : List ℕ) → done + k ≤ length bytes
    → length piece ≡ k → length (put_mid done k bytes piece) ≡ length bytes
length-part_written done k bytes piece inside len =
    omega (arith, length-append {A = ℕ}, length-take {A = ℕ}, length-drop {A = ℕ})

-- or its rest
pub length-written : (filled : ℕ) (old part : List ℕ) → filled ≤ length old
    → length part ≡ length (take (length old - filled) (drop filled old))
    → length (put_mid filled (length old - filled) old part) ≡ length old
length-written filled old part inside len =
    length-part_written filled (length old - filled) old part (omega arith)
    (rw take_rest at len ∙ length-drop filled old)

module _ {S : Type 0} (gives : S → List ℕ → S → Type 0)
    (more : (s t u : S) (xs ys : List ℕ) → gives s xs t → gives t ys u → gives s (xs ++ ys) u)
    (s t u : S) (filled n k : ℕ) (old part : List ℕ) (inside : filled ≤ length old) where
  -- what a source has given is at the start of the buffer, if it then gave nothing more
  pub given_none : n ≡ 0 → gives s (take filled old) t → gives t (take n part) u
      → gives s (take filled (put_mid filled k old part)) u
  given_none none p q =
      rw (take-put_mid_below filled k old part filled (omega arith) inside)
      (taken_none gives more s t u (take filled old) p (rw none at q))

  -- what a source gives next comes after what it has given
  pub given_next : n ≤ length part → gives s (take filled old) t → gives t (take n part) u
      → gives s (take (filled + n) (put_mid filled k old part)) u
  given_next fits p q =
      rw (take-written filled n k old part inside fits)
      (more s t u (take filled old) (take n part) p q)
