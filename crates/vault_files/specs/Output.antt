-- An output of a program over any system, and the system calls that it makes.
use Rattle.std.specs.Prelude.{◌≡◌, ℕ, ◌+◌, List, [], ◌∷◌, ◌++◌}
use Rattle.vault_text.specs.declared.sink.Stage.{Stage}
use Rattle.vault_text.specs.declared.sink.Stage.TheVariants as stage
use Rattle.std.specs.Borrow.{MutBor}
use Rattle.vault_files.specs.System.{SystemCall}
use Rattle.vault_files.specs.System.SystemCall.{Create, ChmodOwnerOnly, Truncate, Write, Sync}
use Rattle.vault_files.specs.System.SystemCall.{Failed}
use Rattle.vault_files.specs.declared.access.Access.{Access}
use Rattle.vault_files.specs.declared.access.Access.TheVariants.{Kept, OwnerOnly}
use Rattle.vault_files.specs.declared.output.State as rust
use Rattle.vault_files.specs.declared.output.State.TheVariants as variant

-- the state of the output
pub data OutputState : Type 0 where
  -- its path and its permissions
  Chosen : List ℕ → Access → OutputState
  Begun : OutputState
  Finished : OutputState

-- its stage as a sink
abbrev pub stage_of : OutputState → Stage
stage_of (Chosen path access) = stage.Unbegun
stage_of Begun = stage.Begun
stage_of Finished = stage.Finished

-- the output in the code, as a contract sees it
abbrev pub output_of : {Writer : Type 0} → List ℕ → Access → rust.State Writer → OutputState
output_of path access variant.Chosen = Chosen path access
output_of path access (variant.Open file) = Begun
output_of path access variant.Finished = Finished

-- the system that it borrows, the output, and how often it failed
pub record FileOutputState (System : Type 0) : Type 0 where
  pub system : MutBor System
  pub output : OutputState
  pub failures : ℕ

-- the calls that restrict an open output
abbrev pub restricting : Access → List SystemCall
restricting Kept = []
restricting OwnerOnly = ChmodOwnerOnly ∷ []

-- the calls that begin an output, before its first byte: an existing file is truncated last
abbrev pub beginning : List ℕ → Access → List SystemCall
beginning path access = Create path ∷ restricting access ++ Truncate ∷ []

-- the calls that begin an output, up to one that fails
pub data FailsToBegin (path : List ℕ) (access : Access) : List SystemCall → Type 0 where
  to_create : FailsToBegin path access (Failed (Create path) ∷ [])
  to_restrict : access ≡ OwnerOnly
      → FailsToBegin path access (Create path ∷ Failed ChmodOwnerOnly ∷ [])
  to_truncate :
      FailsToBegin path access (Create path ∷ restricting access ++ Failed Truncate ∷ [])

-- one use of an output, which brings it from one state to another: the system calls that it makes,
-- the bytes that it takes, and 1 if it fails
pub data OutputStep : OutputState → List SystemCall → List ℕ → ℕ → OutputState → Type 0 where
  begins : (path : List ℕ) (access : Access)
      → OutputStep (Chosen path access) (beginning path access) [] 0 Begun
  writes : (some : List ℕ) → OutputStep Begun (Write some ∷ []) some 0 Begun
  finishes : OutputStep Begun (Sync ∷ []) [] 0 Finished
  fails_to_begin : (path : List ℕ) (access : Access) (calls : List SystemCall)
      → FailsToBegin path access calls
      → OutputStep (Chosen path access) calls [] 1 (Chosen path access)
  fails_to_write : (some : List ℕ) → OutputStep Begun (Failed (Write some) ∷ []) [] 1 Begun
  fails_to_finish : OutputStep Begun (Failed Sync ∷ []) [] 1 Begun

-- the same for any number of uses, one after the other, and how many of them failed
pub data OutputCalls : OutputState → List SystemCall → List ℕ → ℕ → OutputState → Type 0 where
  no_steps : (s : OutputState) → OutputCalls s [] [] 0 s
  steps : (s t u : OutputState) (calls more : List SystemCall) (xs ys : List ℕ) (m n : ℕ)
      → OutputStep s calls xs m t → OutputCalls t more ys n u
      → OutputCalls s (calls ++ more) (xs ++ ys) (m + n) u

-- between two states an output took these bytes: it made no other system calls, and each failed
-- call counts
pub record FileTakes {System : Type 0} (executes : System → List SystemCall → System → Type 0)
    (old : FileOutputState System) (bytes : List ℕ) (new : FileOutputState System) : Type 0 where
  pub calls : List SystemCall
  pub failed : ℕ
  pub executed : executes old.system.now calls new.system.now
  pub are_of_output : OutputCalls old.output calls bytes failed new.output
  pub failures : new.failures ≡ old.failures + failed
  pub same_reference : new.system.ghost_name ≡ old.system.ghost_name
