-- One call of a system, as the files see it.
use Rattle.std.proofs.Common.{◌≡◌, ◌↔◌, ℕ, ◌+◌, List, [], ◌∷◌, ◌++◌, refl, arith}
use Rattle.std.proofs.Common.{inl, inr, false, if◌then◌else◌, IsTrue, Result}
use Rattle.std.proofs.Common.{Ok, Err, add-zero}
use Rattle.std.specs.Result.{is_ok}
use Rattle.std.proofs.lemmas.Bool.{cases_lt, false≢true}
use Rattle.std.proofs.lemmas.List.{append-nil}
use Rattle.vault_text.specs.Failures.{HasRisen, IsSaturated, u64_max}
use Rattle.vault_files.specs.System.{OpenCalls, SystemCall, called}
use Rattle.vault_files.specs.System.OpenCalls.{no_opens, opens, fails_to_open}
use Rattle.vault_files.specs.System.SystemCall.{Open, Failed}
use Rattle.vault_files.specs.Output.{FileOutputState, FileTakes, OutputCalls, OutputStep}
use Rattle.vault_files.specs.Output.{output_of, stage_of}
use Rattle.vault_files.specs.Output.OutputState.{Chosen}
use Rattle.vault_files.specs.declared.output.State as rust
use Rattle.vault_files.specs.declared.output.State.TheVariants as variant
use Rattle.vault_text.specs.declared.sink.Stage.TheVariants.{Unbegun}
use Rattle.vault_files.specs.Output.OutputCalls.{no_steps, steps}
use Rattle.vault_files.specs.declared.access.Access.{Access}

-- a count that has not stopped rises by one
pub rises : (before after : ℕ) → (IsTrue false ↔ IsSaturated before) → HasRisen before after
    → after ≡ before + 1
rises before after unstopped risen =
    elim (cases_lt before u64_max) [
      | inl below ↦ omega (arith, below, risen)
      | inr last ↦ absurd (false≢true (unstopped.1 last))
    ]

-- one open, whatever it returned
pub one_open : {T E : Type 0} (path : List ℕ) (r : Result T E)
    → OpenCalls (path ∷ []) (called (Open path) r ∷ [])
one_open path (Ok value) = opens path [] [] no_opens
one_open path (Err error) = fails_to_open path [] [] no_opens

-- a call, by whether it returned Ok
pub called-is : {T E : Type 0} (call : SystemCall) (r : Result T E)
    → called call r ≡ (if is_ok r then call else Failed call)
called-is call (Ok value) = refl
called-is call (Err error) = refl

-- one use of an output
pub takes_by : {System : Type 0} (executes : System → List SystemCall → System → Type 0)
    (old new : FileOutputState System) {calls : List SystemCall} {bytes : List ℕ} {n : ℕ}
    → OutputStep old.output calls bytes n new.output
    → executes old.system.now calls new.system.now → new.failures ≡ old.failures + n
    → new.system.ghost_name ≡ old.system.ghost_name → FileTakes executes old bytes new
takes_by executes old new {calls} {bytes} {n} step executed counted same =
    let s = old.output in
    let t = new.output in
    let made : OutputCalls s (calls ++ []) (bytes ++ []) (n + 0) t =
    steps s t t calls [] bytes [] n 0 step (no_steps t) in
    record {
      calls = calls;
      failed = n;
      executed = executed;
      are_of_output = rw (append-nil calls, append-nil bytes, add-zero n) at made;
      failures = counted;
      same_reference = same;
    }

-- an output that has not begun
pub unbegun-chosen : {Writer : Type 0} (path : List ℕ) (access : Access) (state : rust.State Writer)
    → stage_of (output_of path access state) ≡ Unbegun
    → output_of path access state ≡ Chosen path access
unbegun-chosen path access variant.Chosen unbegun = refl
unbegun-chosen path access (variant.Open file) unbegun = absurd cc
unbegun-chosen path access variant.Finished unbegun = absurd cc
