-- How the program ends over its files and its standard streams.
use Rattle.std.specs.Prelude.{◌≡◌, ℕ, List, [], take, Option, Some, None, Result, Ok}
use Rattle.clap.specs.Words.{Kinds}
use Rattle.vault_files.specs.File.{FileState, Found}
use Rattle.vault_files.specs.Output.{OutputCalls, OutputState}
use Rattle.vault_files.specs.Output.OutputState.{Chosen, Finished}
use Rattle.vault_files.specs.System.{Opens, SystemCall}
use Rattle.vault_files.specs.declared.access.Access.{Access}
use Rattle.vault_fault.specs.declared.fault.Fault.{Fault}
use Rattle.vault_cli.specs.Access.{output_access}
use Rattle.vault_cli.specs.Call.{FilesCall, SinkCall, SourceCall, files_from}
use Rattle.vault_cli.specs.Explained.{Declines, Explains}
use Rattle.vault_cli.specs.OpenedPaths.{opened_paths}
use Rattle.vault_cli.specs.Program.{Files, program, stdin_needed}
use Rattle.vault_cli.specs.runs.FileContents.{AtPath, secret_paths}
use Rattle.vault_cli.specs.runs.OutputEnd.{OutputEnd, to_sink}
use Rattle.vault_cli.specs.runs.Run.{RunEnds}
use Rattle.vault_request.specs.Request.{Request}
use Rattle.vault_cli.specs.declared.runs.status.Status.{Status}

-- files that may be found at the paths of the request
abbrev pub AllFound : (List ℕ → FileState → Type 0) → Request → Files → Type 0
AllFound finds request files =
    Found finds (secret_paths request) files.secrets × AtPath finds request.salt_path files.salt
    × AtPath finds request.input files.input

-- the system after the files of the request were opened: `since_opens.old` is its state then
module _ {D R W K : Type 0} (since_opens : FilesCall D R W) (out : SinkCall K) where
  -- what happened to the file at a path, if one is named, or else to standard output; the other is
  -- left alone. If the file received the bytes, none of its uses failed (0); if it was cut, one of
  -- them did (1).
  abbrev pub to_path : Option (List ℕ) → Access → OutputEnd
  to_path None access = record {
    untouched = (out.new ≡ out.old) × (since_opens.new ≡ since_opens.old);
    received = λ bytes. (to_sink out).received bytes × (since_opens.new ≡ since_opens.old);
    cut = λ bytes. (to_sink out).cut bytes × (since_opens.new ≡ since_opens.old);
  }
  to_path (Some path) access = record {
    untouched = (out.new ≡ out.old) × (since_opens.new ≡ since_opens.old);
    received = λ bytes. (out.new ≡ out.old)
        × ((calls : List SystemCall) × since_opens.executes since_opens.old calls since_opens.new
        × OutputCalls (Chosen path access) calls bytes 0 Finished);
    cut = λ bytes. (out.new ≡ out.old)
        × ((count : ℕ) × (calls : List SystemCall)
        × since_opens.executes since_opens.old calls since_opens.new
        × ((state : OutputState)
        × OutputCalls (Chosen path access) calls (take count bytes) 1 state));
  }

module _ {D R W S K E : Type 0} (files : FilesCall D R W) (src : SourceCall S) (out : SinkCall K)
    (err : SinkCall E) (result : Status) (kinds : Kinds)
    (requested : Option (Result Request Fault)) where
  pub data Ends : Type 0 where
    -- The arguments parse and make a request. The program opened the files at their paths, up to
    -- the first that it cannot open or read, and then ran the request.
    Ran : kinds ≡ [] → (request : Request) → requested ≡ Some (Ok request)
        → (found : Files) → AllFound (files.finds files.old) request found
        → (opened : D) → Opens files.executes files.old (opened_paths request found) opened
        → RunEnds src (to_path (files_from opened files) out request.output
        (output_access request.command)) err result (stdin_needed request found)
        (program request found)
        → Ends
    -- The arguments parse, but their options are refused. The program opened and read nothing.
    Declined : kinds ≡ [] → files.new ≡ files.old → src.new ≡ src.old
        → Declines out err result requested → Ends
    -- The program opened and read nothing: help was asked for, the arguments do not parse, or
    -- memory ran out.
    Stopped : files.new ≡ files.old → src.new ≡ src.old → Explains out err result kinds → Ends
