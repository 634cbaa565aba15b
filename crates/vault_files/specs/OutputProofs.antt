-- The system calls of two calls, one after the other.
use Rattle.std.specs.Prelude.{ℕ, ◌+◌, List, [], ◌++◌, refl}
use Rattle.std.proofs.Common.{◌∙◌, arith, zero-add, add_assoc, append_assoc}
use Rattle.vault_files.specs.System.{SystemCall}
use Rattle.vault_files.specs.Output.{FileOutputState, FileTakes, OutputCalls, OutputState}
use Rattle.vault_files.specs.Output.OutputCalls.{no_steps, steps}

-- an output's calls, followed by more of its calls
OutputCalls-more : (s t u : OutputState) (calls more : List SystemCall) (xs ys : List ℕ) (m n : ℕ)
    → OutputCalls s calls xs m t → OutputCalls t more ys n u
    → OutputCalls s (calls ++ more) (xs ++ ys) (m + n) u
OutputCalls-more s t u _ more _ ys _ n (no_steps _) q = rw (zero-add n) q
OutputCalls-more s t u _ more _ ys _ n (steps _ v _ first calls bytes xs k m step p) q =
    rw (append_assoc first calls more, append_assoc bytes xs ys, add_assoc k m n)
    (steps s v u first (calls ++ more) bytes (xs ++ ys) k (m + n) step
    (OutputCalls-more v t u calls more xs ys m n p q))

module _ {System : Type 0} (executes : System → List SystemCall → System → Type 0) where
  pub FileTakes-none : ((s : System) → executes s [] s) → (s : FileOutputState System)
      → FileTakes executes s [] s
  FileTakes-none executes_none s = record {
    calls = [];
    failed = 0;
    executed = executes_none s.system.now;
    are_of_output = no_steps s.output;
    failures = omega arith;
    same_reference = refl;
  }

  pub FileTakes-more : ((s t u : System) (xs ys : List SystemCall)
      → executes s xs t → executes t ys u → executes s (xs ++ ys) u)
      → (s t u : FileOutputState System) (xs ys : List ℕ)
      → FileTakes executes s xs t → FileTakes executes t ys u → FileTakes executes s (xs ++ ys) u
  FileTakes-more executes_more s t u xs ys p q = record {
    calls = p.calls ++ q.calls;
    failed = p.failed + q.failed;
    executed = executes_more s.system.now t.system.now u.system.now p.calls q.calls p.executed
        q.executed;
    are_of_output = OutputCalls-more s.output t.output u.output p.calls q.calls xs ys p.failed
        q.failed p.are_of_output q.are_of_output;
    failures = omega arith;
    same_reference = q.same_reference ∙ p.same_reference;
  }
