-- What a sink took in two calls, one after the other.
use Rattle.std.specs.Prelude.{ℕ, ◌++◌, List, [], Option, Some, None, refl}
use Rattle.std.proofs.Common.{arith, sym, append_assoc, ◌∙◌}
use Rattle.std.proofs.lemmas.List.{append-nil}
use Rattle.std.specs.Io.KnownBytes.{Appends}
use Rattle.vault_text.specs.Failures.{FailingState}
use Rattle.vault_text.specs.Sink.{FailingTakes, MemSinkState, MemoryTakes, SinkState, Takes}
use Rattle.vault_text.specs.Sink.{failing_state_of, state_of}

Appends-none : (known : Option (List ℕ)) → Appends known known []
Appends-none None = tt
Appends-none (Some xs) = sym (append-nil xs)

Appends-more : (a b c : Option (List ℕ)) (xs ys : List ℕ)
    → Appends a b xs → Appends b c ys → Appends a c (xs ++ ys)
Appends-more None b c xs ys p q = tt
Appends-more (Some a) None c xs ys p q = absurd p
Appends-more (Some a) (Some b) None xs ys p q = absurd q
Appends-more (Some a) (Some b) (Some c) xs ys p q = rw (q, p) (append_assoc a xs ys)

-- a sink that was not called took nothing
pub Takes-none : (s : SinkState) → Takes s [] s
Takes-none s = record { appended = Appends-none s.held; failures_monotone = omega arith }

-- the bytes taken first and the bytes taken next are taken one after the other
pub Takes-more : (s t u : SinkState) (xs ys : List ℕ)
    → Takes s xs t → Takes t ys u → Takes s (xs ++ ys) u
Takes-more s t u xs ys p q = record {
  appended = Appends-more s.held t.held u.held xs ys p.appended q.appended;
  failures_monotone = let a = p.failures_monotone in let b = q.failures_monotone in omega arith;
}

-- over memory
pub MemoryTakes-none : (s : MemSinkState) → MemoryTakes s [] s
MemoryTakes-none s = (Takes-none (state_of s), refl)

pub MemoryTakes-more : (s t u : MemSinkState) (xs ys : List ℕ)
    → MemoryTakes s xs t → MemoryTakes t ys u → MemoryTakes s (xs ++ ys) u
MemoryTakes-more s t u xs ys p q =
    (Takes-more (state_of s) (state_of t) (state_of u) xs ys p.0 q.0, q.1 ∙ p.1)

-- over memory that fails after a number of calls
pub FailingTakes-none : (s : FailingState MemSinkState) → FailingTakes s [] s
FailingTakes-none s = (Takes-none (failing_state_of s), refl)

pub FailingTakes-more : (s t u : FailingState MemSinkState) (xs ys : List ℕ)
    → FailingTakes s xs t → FailingTakes t ys u → FailingTakes s (xs ++ ys) u
FailingTakes-more s t u xs ys p q = (
  Takes-more (failing_state_of s) (failing_state_of t) (failing_state_of u) xs ys p.0 q.0,
  q.1 ∙ p.1,
)
