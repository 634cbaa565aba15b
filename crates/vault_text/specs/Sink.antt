-- What a contract sees of a sink of bytes.
use Rattle.std.specs.Prelude.{◌≡◌, ℕ, ◌≤◌, List, [], take, Bool, true, false, Option, Some}
use Rattle.std.specs.Prelude.{Result, Ok, Err}
use Rattle.std.specs.Io.KnownBytes.{Appends}
use Rattle.vault_text.specs.Failures.{FailingState}
use Rattle.vault_text.specs.Recorded.{Recorded}
use Rattle.vault_text.specs.declared.sink.Stage.{Stage}
use Rattle.vault_text.specs.declared.sink.Stage.TheVariants.{Unbegun, Begun, Finished}
use Rattle.vault_text.specs.declared.sink.write.State.{State}
use Rattle.vault_text.specs.declared.sink.write.State.TheVariants as state

-- the bytes that a call took of the bytes it was offered
abbrev pub taken : {E : Type 0} → Result ℕ E → List ℕ → List ℕ
taken (Ok n) bytes = take n bytes
taken (Err e) bytes = []

-- a sink: its bytes, if they are known, its stage, and its failures
pub record SinkState : Type 0 where
  pub held : Option (List ℕ)
  pub stage : Stage
  pub failures : ℕ

-- a sink over a writer with these contents
abbrev pub new_sink : Option (List ℕ) → Recorded SinkState
new_sink held =
    record { device = record { held = held; stage = Unbegun; failures = 0 }; bytes = [] }

-- between two states a sink took these bytes
pub record Takes (old : SinkState) (taken : List ℕ) (new : SinkState) : Type 0 where
  pub appended : Appends old.held new.held taken
  pub failures_monotone : old.failures ≤ new.failures

-- whether `begin` has returned Ok
abbrev pub has_begun : Stage → Bool
has_begun Unbegun = false
has_begun Begun = true
has_begun Finished = true

-- the stage of a sink over a writer
abbrev pub stage_of : State → Stage
stage_of state.Unbegun = Unbegun
stage_of state.Begun = Begun
stage_of (state.Finished flush) = Finished

-- a sink over memory: its bytes, how many its memory can hold, its stage, its failures, and the
-- most bytes that it takes per call
pub record MemSinkState : Type 0 where
  pub held : List ℕ
  pub room : ℕ
  pub stage : Stage
  pub failures : ℕ
  pub step : ℕ

-- what a contract sees of it
abbrev pub state_of : MemSinkState → SinkState
state_of m = record { held = Some m.held; stage = m.stage; failures = m.failures }

-- between two states it took these bytes
abbrev pub MemoryTakes : MemSinkState → List ℕ → MemSinkState → Type 0
MemoryTakes old taken new = Takes (state_of old) taken (state_of new) × (new.step ≡ old.step)

-- the same for a sink that fails after a number of calls
abbrev pub failing_state_of : FailingState MemSinkState → SinkState
failing_state_of f =
    record { held = Some f.memory.held; stage = f.memory.stage; failures = f.failures }

-- between two states it took these bytes
abbrev pub FailingTakes : FailingState MemSinkState → List ℕ
    → FailingState MemSinkState → Type 0
FailingTakes old taken new =
    Takes (failing_state_of old) taken (failing_state_of new)
    × (new.memory.step ≡ old.memory.step)
