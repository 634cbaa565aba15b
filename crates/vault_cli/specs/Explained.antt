-- How the program ends before it loads a file: one record for each way.
use Rattle.std.specs.Prelude.{◌≡◌, ◌≢◌, ◌<◌, ◌⊎◌, ◌++◌, ℕ, false, List, All, length}
use Rattle.std.specs.Prelude.{Option, Some, Result, Err}
use Rattle.clap.specs.Words.{IsAmong, Kinds}
use Rattle.clap.specs.declared.error.kind.ErrorKind.{ErrorKind}
use Rattle.clap.specs.declared.error.kind.ErrorKind.TheVariants.{DisplayHelp, DisplayVersion}
use Rattle.clap.specs.declared.error.kind.ErrorKind.TheVariants as error
use Rattle.vault_fault.specs.declared.fault.Fault.{Fault}
use Rattle.vault_fault.specs.declared.fault.Fault.TheVariants.{Memory, Write}
use Rattle.vault_request.specs.Refusal.{is_control}
use Rattle.vault_request.specs.Request.{Request}
use Rattle.vault_cli.specs.Call.{SinkCall}
use Rattle.vault_cli.specs.runs.Reports.{Reports, companions_line, line_of}
use Rattle.vault_cli.specs.runs.OutputEnd.{to_sink}
use Rattle.vault_cli.specs.runs.Status.{status_of}
use Rattle.vault_cli.specs.declared.runs.status.Status.{Status}
use Rattle.vault_cli.specs.declared.runs.status.Status.TheVariants.{DeviceFailed, OutOfMemory}
use Rattle.vault_cli.specs.declared.runs.status.Status.TheVariants.{ParseFault, Success}

-- LF, or not a control byte
abbrev pub IsShown : ℕ → Type 0
IsShown byte = (byte ≡ 10) ⊎ (is_control byte ≡ false)

-- a text of at least one byte, all of them such bytes
abbrev pub IsShownText : List ℕ → Type 0
IsShownText text = (0 < length text) × All IsShown text

-- the user asked for help or for the version
abbrev pub IsHelp : ErrorKind → Type 0
IsHelp kind = (kind ≡ DisplayHelp) ⊎ (kind ≡ DisplayVersion)

-- the arguments are wrong
abbrev pub IsMistake : ErrorKind → Type 0
IsMistake kind =
    (kind ≢ DisplayHelp) × (kind ≢ DisplayVersion) × (kind ≢ error.OutOfMemory)

-- The arguments have these kinds of error: none if they parse.
module _ {K E : Type 0} (out : SinkCall K) (err : SinkCall E) (result : Status)
    (kinds : Kinds) where
  -- Memory ran out.
  pub record LacksMemory : Type 0 where
    pub status : result ≡ OutOfMemory
    pub output : out.new ≡ out.old
    pub message : Reports err (line_of Memory)

  -- Help or the version was asked for, and is on standard output.
  pub record ShowsHelp : Type 0 where
    pub kind : ErrorKind
    pub is_among : IsAmong kind kinds
    pub help : IsHelp kind
    pub text : List ℕ
    pub status : result ≡ Success
    pub output : (to_sink out).received text
    pub message : err.new ≡ err.old

  -- Help or the version was asked for, but standard output failed.
  pub record HelpFails : Type 0 where
    pub kind : ErrorKind
    pub is_among : IsAmong kind kinds
    pub help : IsHelp kind
    pub text : List ℕ
    pub status : result ≡ DeviceFailed
    pub output : (to_sink out).cut text
    pub message : Reports err (line_of Write)

  -- The arguments are wrong. A text on standard error says so, without control bytes except LF, and
  -- is not empty; then a line names the companions.
  pub record Rejects : Type 0 where
    pub kind : ErrorKind
    pub is_among : IsAmong kind kinds
    pub mistake : IsMistake kind
    pub text : List ℕ
    pub is_shown : IsShownText text
    pub status : result ≡ ParseFault
    pub output : out.new ≡ out.old
    pub message : Reports err (text ++ companions_line)

  -- one of these four
  pub data Explains : Type 0 where
    MemoryLacked : LacksMemory → Explains
    HelpShown : ShowsHelp → Explains
    HelpFailed : HelpFails → Explains
    Rejected : Rejects → Explains

-- The arguments parse, and this is what they request.
module _ {K E : Type 0} (out : SinkCall K) (err : SinkCall E) (result : Status)
    (requested : Option (Result Request Fault)) where
  -- The options are refused: their fault was reported.
  pub record Declines : Type 0 where
    pub fault : Fault
    pub refused : requested ≡ Some (Err fault)
    pub status : result ≡ status_of fault
    pub memory_suffices : result ≢ OutOfMemory
    pub output : out.new ≡ out.old
    pub message : Reports err (line_of fault)
