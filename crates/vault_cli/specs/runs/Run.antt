-- How the run of a request ends: one record for each way.
use Rattle.std.specs.Prelude.{◌≡◌, ◌≢◌, ◌⊎◌, ℕ, ◌≤◌, List, [], length, is_some, true}
use Rattle.std.specs.Prelude.{Option, Some, None, Result, Ok, Err}
use Rattle.vault_text.specs.Failures.{HasRisen, IsSaturated}
use Rattle.vault_core.specs.Input.{ReadsInput}
use Rattle.vault_fault.specs.declared.fault.Fault.{Fault}
use Rattle.vault_fault.specs.declared.fault.Fault.TheVariants.{Read, Write}
use Rattle.vault_fault.specs.declared.fault.Role.TheVariants.{Input}
use Rattle.vault_request.specs.Request.{Request}
use Rattle.vault_cli.specs.Call.{SinkCall, SourceCall}
use Rattle.vault_cli.specs.runs.Answer.{input_needed, run_answer_within}
use Rattle.vault_cli.specs.runs.OutputEnd.{OutputEnd, to_sink}
use Rattle.vault_cli.specs.runs.Reports.{Reports, line_of}
use Rattle.vault_cli.specs.runs.Status.{status_of}
use Rattle.vault_cli.specs.declared.runs.status.Status.{Status}
use Rattle.vault_cli.specs.declared.runs.status.Status.TheVariants.{DeviceFailed, OutOfMemory}
use Rattle.vault_cli.specs.declared.runs.status.Status.TheVariants.{Success}

-- This was read from a source. If nothing is needed from it, it was left alone.
abbrev pub Reads : {S : Type 0} → SourceCall S → Option ℕ → List ℕ → Type 0
Reads src None input = (src.new ≡ src.old) × (input ≡ [])
Reads src (Some limit) input = ReadsInput src limit input

-- A run that needs this much of a source, and whose answer to what it reads is the bytes to write,
-- or a fault.
module _ {S E : Type 0} (src : SourceCall S) (out : OutputEnd) (err : SinkCall E) (result : Status)
    (needed : Option ℕ) (answers : List ℕ → Result (List ℕ) Fault) where
  -- The run succeeded: the whole answer was written, and nothing was reported.
  pub record Succeeds : Type 0 where
    pub input : List ℕ
    pub reads : Reads src needed input
    pub bytes : List ℕ
    pub answer : answers input ≡ Ok bytes
    pub status : result ≡ Success
    pub output : out.received bytes
    pub message : err.new ≡ err.old

  -- The run was refused: the answer is a fault, which was reported; the output was left alone.
  pub record Refuses : Type 0 where
    pub input : List ℕ
    pub reads : Reads src needed input
    pub fault : Fault
    pub answer : answers input ≡ Err fault
    pub status : result ≡ status_of fault
    pub memory_suffices : result ≢ OutOfMemory
    pub output : out.untouched
    pub message : Reports err (line_of fault)

  -- The output failed: only the first bytes of the answer were written.
  pub record OutputFails : Type 0 where
    pub input : List ℕ
    pub reads : Reads src needed input
    pub bytes : List ℕ
    pub answer : answers input ≡ Ok bytes
    pub status : result ≡ DeviceFailed
    pub output : out.cut bytes
    pub message : Reports err (line_of Write)

  -- The source failed after it gave this much of the needed input; the output was left alone.
  pub record InputFails : Type 0 where
    pub input : List ℕ
    pub limit : ℕ
    pub is_needed : needed ≡ Some limit
    pub gives : src.gives src.old input src.new
    pub short : length input ≤ limit
    pub failed : HasRisen (src.failures src.old) (src.failures src.new)
    pub status : result ≡ DeviceFailed
    pub output : out.untouched
    pub message : Reports err (line_of (Read Input))

  -- one of these four
  pub data RunEnds : Type 0 where
    Succeeded : Succeeds → RunEnds
    HasRefused : Refuses → RunEnds
    OutputFailed : OutputFails → RunEnds
    InputFailed : InputFails → RunEnds

-- a run of a request, under a limit of the plaintext, with the contents of its password files, in
-- order, and a salt
module _ (limit : ℕ) (request : Request) (contents : List (List ℕ)) (salt : List ℕ)
    {S K E : Type 0} (src : SourceCall S) (out : SinkCall K) (err : SinkCall E)
    (result : Status) where
  pub record RunsRequest : Type 0 where
    -- the source is left alone if the passwords, the secret or the salt are refused, and if there
    -- is a STRING
    pub ends : RunEnds src (to_sink out) err result (input_needed limit request contents salt)
        (run_answer_within limit request contents salt)
    -- the status says so only if a device failed
    pub device_failed : result ≡ DeviceFailed
        → HasRisen (src.failures src.old) (src.failures src.new)
        ⊎ HasRisen (out.failures out.old) (out.failures out.new)
    -- once the count of a device's failures is saturated, each of its calls fails, and so does a
    -- run that needs one
    pub full_source : is_some (input_needed limit request contents salt) ≡ true
        → IsSaturated (src.failures src.old) → result ≡ DeviceFailed
    pub full_output : IsSaturated (out.failures out.old) → result ≢ Success
