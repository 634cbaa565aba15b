-- What a contract sees of a source of bytes.
use Rattle.std.specs.Prelude.{◌≡◌, ℕ, ◌≤◌, List, [], take, Bool, IsTrue, false, Option, Some}
use Rattle.std.specs.Prelude.{Result, Ok, Err}
use Rattle.std.specs.Io.KnownBytes.{Consumes, IsAtEnd}
use Rattle.vault_text.specs.Failures.{FailingState}
use Rattle.vault_text.specs.Recorded.{Recorded}

-- the bytes that a call gave, of a buffer that it filled from the start
abbrev pub given : {E : Type 0} → Result ℕ E → List ℕ → List ℕ
given (Ok n) buffer = take n buffer
given (Err e) buffer = []

-- a source: the bytes that it has left, if they are known, whether it reported its end, and its
-- failures
pub record SourceState : Type 0 where
  pub left : Option (List ℕ)
  pub ended : Bool
  pub failures : ℕ

-- a source over a reader that has this left
abbrev pub new_source : Option (List ℕ) → Recorded SourceState
new_source left =
    record { device = record { left = left; ended = false; failures = 0 }; bytes = [] }

-- between two states a source gave these bytes
pub record Gives (old : SourceState) (given : List ℕ) (new : SourceState) : Type 0 where
  pub consumed : Consumes old.left new.left given
  pub nothing_after_end : IsTrue old.ended → (given ≡ []) × IsTrue new.ended
  pub end_is_real : (IsTrue old.ended → IsAtEnd old.left) → IsTrue new.ended → IsAtEnd new.left
  pub failures_monotone : old.failures ≤ new.failures

-- a source over memory, which never fails: its remaining bytes, whether it reported its end, and
-- the most bytes that it gives per call
pub record MemSourceState : Type 0 where
  pub left : List ℕ
  pub ended : Bool
  pub step : ℕ

-- what a contract sees of it
abbrev pub state_of : MemSourceState → SourceState
state_of m = record { left = Some m.left; ended = m.ended; failures = 0 }

-- between two states it gave these bytes
abbrev pub MemoryGives : MemSourceState → List ℕ → MemSourceState → Type 0
MemoryGives old given new = Gives (state_of old) given (state_of new) × (new.step ≡ old.step)

-- the same for a source that fails after a number of calls
abbrev pub failing_state_of : FailingState MemSourceState → SourceState
failing_state_of f =
    record { left = Some f.memory.left; ended = f.memory.ended; failures = f.failures }

-- between two states it gave these bytes
abbrev pub FailingGives : FailingState MemSourceState → List ℕ
    → FailingState MemSourceState → Type 0
FailingGives old given new =
    Gives (failing_state_of old) given (failing_state_of new)
    × (new.memory.step ≡ old.memory.step)
