-- The system calls of the program, made up of calls of the standard library.
use Rattle.std.specs.Prelude.{◌≡◌, ◌≢◌, ℕ, List, [], ◌∷◌, ◌++◌, Ok, Err}
use Rattle.std.specs.Fs.{IsFile}
use Rattle.std.specs.declared.fs.FileType.{FileType}
use Rattle.std.specs.declared.io.ErrorKind.{ErrorKind}
use Rattle.std.specs.declared.io.ErrorKind.TheVariants.{InvalidInput}
use Rattle.vault_files.specs.HostCall.{HostCalls, Outcome}
use Rattle.vault_files.specs.System.{SystemCall, called, wrote}
use Rattle.vault_files.specs.System.SystemCall.{Open, Create, ChmodOwnerOnly, Truncate, Write}
use Rattle.vault_files.specs.System.SystemCall.{Sync, Failed}
use Rattle.vault_files.specs.declared.system.host_files.host_call.HostCall.{HostCall}
use Rattle.vault_files.specs.declared.system.host_files.host_call.HostCall.TheVariants as host

-- a call that is made only if the file is a regular one: all calls, and how they ended
pub data IfRegular (call : Outcome (Unit {0}) → HostCall (List ℕ))
    : HostCalls → Outcome (Unit {0}) → Type 0 where
  regular : (file : FileType) (outcome : Outcome (Unit {0})) → IsFile file
      → IfRegular call (host.Metadata (Ok file) ∷ call outcome ∷ []) outcome
  not_regular : (file : FileType) → (IsFile file → ⊥)
      → IfRegular call (host.Metadata (Ok file) ∷ []) (Ok tt)
  unknown : (error : ErrorKind) → IfRegular call (host.Metadata (Err error) ∷ []) (Err error)

-- the calls of the standard library that make up one system call
pub data MakesUp : HostCalls → SystemCall → Type 0 where
  opens : (path : List ℕ) (outcome : Outcome (Unit {0}))
      → MakesUp (host.OpenToRead path outcome ∷ []) (called (Open path) outcome)
  creates : (path : List ℕ) (outcome : Outcome (Unit {0}))
      → MakesUp (host.OpenToWrite path 0o600 outcome ∷ []) (called (Create path) outcome)
  restricts : (calls : HostCalls) (outcome : Outcome (Unit {0}))
      → IfRegular (host.SetPermissions 0o600) calls outcome
      → MakesUp calls (called ChmodOwnerOnly outcome)
  truncates : (calls : HostCalls) (outcome : Outcome (Unit {0}))
      → IfRegular (host.SetLen 0) calls outcome
      → MakesUp calls (called Truncate outcome)
  writes : (bytes : List ℕ) (outcome : Outcome ℕ) → outcome ≢ Ok 0
      → MakesUp (host.Write bytes outcome ∷ []) (wrote bytes outcome)
  writes_nothing : (bytes : List ℕ)
      → MakesUp (host.Write bytes (Ok 0) ∷ []) (Failed (Write bytes))
  syncs : (outcome : Outcome (Unit {0})) → outcome ≢ Err InvalidInput
      → MakesUp (host.SyncAll outcome ∷ []) (called Sync outcome)
  -- the file's device cannot be synced, which is no failure
  cannot_sync : MakesUp (host.SyncAll (Err InvalidInput) ∷ []) Sync

-- the same for several system calls, in order
pub data MakeUpAll : HostCalls → List SystemCall → Type 0 where
  no_calls : MakeUpAll [] []
  calls : (some more : HostCalls) (call : SystemCall) (others : List SystemCall)
      → MakesUp some call → MakeUpAll more others → MakeUpAll (some ++ more) (call ∷ others)

-- between two states of the record, the calls that make up these system calls were noted, and no
-- others
pub record Executed (old : HostCalls) (calls : List SystemCall) (new : HostCalls) : Type 0 where
  pub made : HostCalls
  pub noted : new ≡ old ++ made
  pub make_up : MakeUpAll made calls
