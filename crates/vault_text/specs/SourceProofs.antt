-- What a source gave in two calls, one after the other.
use Rattle.std.specs.Prelude.{ℕ, ◌++◌, List, [], Option, Some, None, refl}
use Rattle.std.proofs.Common.{arith, sym, append_assoc, ◌∙◌}
use Rattle.std.specs.Io.KnownBytes.{Consumes}
use Rattle.vault_text.specs.Failures.{FailingState}
use Rattle.vault_text.specs.Source.{FailingGives, Gives, MemSourceState, MemoryGives, SourceState}
use Rattle.vault_text.specs.Source.{failing_state_of, state_of}

Consumes-none : (known : Option (List ℕ)) → Consumes known known []
Consumes-none None = tt
Consumes-none (Some xs) = refl

Consumes-more : (a b c : Option (List ℕ)) (xs ys : List ℕ)
    → Consumes a b xs → Consumes b c ys → Consumes a c (xs ++ ys)
Consumes-more None b c xs ys p q = tt
Consumes-more (Some a) None c xs ys p q = absurd p
Consumes-more (Some a) (Some b) None xs ys p q = absurd q
Consumes-more (Some a) (Some b) (Some c) xs ys p q = rw (p, q) (sym (append_assoc xs ys c))

-- a source that was not called gave nothing
pub Gives-none : (s : SourceState) → Gives s [] s
Gives-none s = record {
  consumed = Consumes-none s.left;
  nothing_after_end = λ e. (refl, e);
  end_is_real = λ sound e. sound e;
  failures_monotone = omega arith;
}

-- the bytes given first and the bytes given next are given one after the other
pub Gives-more : (s t u : SourceState) (xs ys : List ℕ)
    → Gives s xs t → Gives t ys u → Gives s (xs ++ ys) u
Gives-more s t u xs ys p q = record {
  consumed = Consumes-more s.left t.left u.left xs ys p.consumed q.consumed;
  nothing_after_end = λ e.
      let first = p.nothing_after_end e in
      let then = q.nothing_after_end first.1 in
      (rw (first.0, then.0) refl, then.1);
  end_is_real = λ sound e. q.end_is_real (p.end_is_real sound) e;
  failures_monotone = let a = p.failures_monotone in let b = q.failures_monotone in omega arith;
}

-- over memory
pub MemoryGives-none : (s : MemSourceState) → MemoryGives s [] s
MemoryGives-none s = (Gives-none (state_of s), refl)

pub MemoryGives-more : (s t u : MemSourceState) (xs ys : List ℕ)
    → MemoryGives s xs t → MemoryGives t ys u → MemoryGives s (xs ++ ys) u
MemoryGives-more s t u xs ys p q =
    (Gives-more (state_of s) (state_of t) (state_of u) xs ys p.0 q.0, q.1 ∙ p.1)

-- over memory that fails after a number of calls
pub FailingGives-none : (s : FailingState MemSourceState) → FailingGives s [] s
FailingGives-none s = (Gives-none (failing_state_of s), refl)

pub FailingGives-more : (s t u : FailingState MemSourceState) (xs ys : List ℕ)
    → FailingGives s xs t → FailingGives t ys u → FailingGives s (xs ++ ys) u
FailingGives-more s t u xs ys p q = (
  Gives-more (failing_state_of s) (failing_state_of t) (failing_state_of u) xs ys p.0 q.0,
  q.1 ∙ p.1,
)
