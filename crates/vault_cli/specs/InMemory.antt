-- How the program ends over files, an input and sinks in memory: what each contains afterwards.
use Rattle.std.specs.Prelude.{◌≡◌, ◌≢◌, ◌⊎◌, ℕ, ◌+◌, ◌<◌, if◌then◌else◌, List, [], length, map}
use Rattle.std.specs.Prelude.{take, drop, Bool, true, false, Option, Some, None, Result, Ok}
use Rattle.std.specs.Option.{option_map}
use Rattle.std.specs.Str.{bytes_eq}
use Rattle.clap.specs.Words.{Kinds}
use Rattle.vault_text.specs.Source.{MemSourceState}
use Rattle.vault_files.specs.File.{FileState}
use Rattle.vault_files.specs.File.FileState.{Whole}
use Rattle.vault_files.specs.Memory.{Created, StoreState, file_at, stands_at}
use Rattle.vault_files.specs.PathLog.{logged}
use Rattle.vault_files.specs.declared.limits.TheConstants.{PATH_LIMIT}
use Rattle.vault_fault.specs.declared.fault.Fault.{Fault}
use Rattle.vault_request.specs.Request.{Request}
use Rattle.vault_cli.specs.Call.{FilesCall, SinkCall, SourceCall}
use Rattle.vault_cli.specs.Drive.{Ends}
use Rattle.vault_cli.specs.OpenedPaths.{opened_paths}
use Rattle.vault_cli.specs.Program.{Files, program, stdin_needed}
use Rattle.vault_cli.specs.runs.FileContents.{secret_paths}
use Rattle.vault_cli.specs.runs.OutputEnd.{OutputEnd, to_sink}
use Rattle.vault_cli.specs.runs.Run.{RunEnds}
use Rattle.vault_cli.specs.declared.runs.status.Status.{Status}
use Rattle.vault_cli.specs.declared.runs.status.Status.TheVariants.{OutOfMemory}

-- the files at the paths of the request
abbrev pub files_at : (List ℕ → FileState) → Request → Files
files_at at request = record {
  secrets = map at (secret_paths request);
  salt = option_map at request.salt_path;
  input = option_map at request.input;
}

-- the input was taken to its end, or to one byte past the limit, or was left alone if nothing was
-- requested
abbrev pub Taken : Option ℕ → SourceCall MemSourceState → Type 0
Taken None src = src.new ≡ src.old
Taken (Some limit) src = src.new.left ≡ drop (limit + 1) src.old.left

-- whether the path is the output's
abbrev pub is_output_at : Option (List ℕ) → List ℕ → Bool
is_output_at None path = false
is_output_at (Some output_file) path = bytes_eq output_file path

-- what is at a path after these bytes went to a path or to standard output
abbrev pub stands_after : (List ℕ → FileState) → Option (List ℕ) → List ℕ → List ℕ → FileState
stands_after before output_file bytes path =
    if is_output_at output_file path then Whole bytes else before path

-- a file was created, and synced since it was last written
abbrev pub IsSynced : Option Created → Type 0
IsSynced None = ⊥
IsSynced (Some file) = file.synced ≡ true

-- a file was created, and a write to it failed
abbrev pub HasFailedWrite : Option Created → Type 0
HasFailedWrite None = ⊥
HasFailedWrite (Some file) = file.cut ≡ true

module _ {R W : Type 0} (files : FilesCall StoreState R W) where
  -- this is at each path
  abbrev pub Stands : (List ℕ → FileState) → Type 0
  Stands after = (path : List ℕ) → stands_at files.new path ≡ after path

  -- each path still has what it had before
  abbrev pub IsKept : Type 0
  IsKept = Stands (file_at files.old.entries)

  -- each still has that, but the path has these bytes
  abbrev pub StandsAt : List ℕ → List ℕ → Type 0
  StandsAt path bytes = Stands (stands_after (file_at files.old.entries) (Some path) bytes)

  -- what happened to the file at a path, if one is named, or else to standard output; the other is
  -- left alone. A file whose path is too long is not created.
  abbrev pub to_memory : {K : Type 0} → SinkCall K → Option (List ℕ) → OutputEnd
  to_memory out None = record {
    untouched = (out.new ≡ out.old) × IsKept;
    received = λ bytes. (to_sink out).received bytes × IsKept;
    cut = λ bytes. (to_sink out).cut bytes × IsKept;
  }
  to_memory out (Some path) = record {
    untouched = (out.new ≡ out.old) × IsKept;
    received = λ bytes. (out.new ≡ out.old) × StandsAt path bytes × IsSynced files.new.created;
    cut = λ bytes. (out.new ≡ out.old)
        × (((PATH_LIMIT < length path) × IsKept)
        ⊎ (HasFailedWrite files.new.created
        × ((count : ℕ) × StandsAt path (take count bytes))));
  }

module _ {R W K E : Type 0} (files : FilesCall StoreState R W) (src : SourceCall MemSourceState)
    (out : SinkCall K) (err : SinkCall E) (result : Status) where
  -- A request ran over the files at its paths. Its answer is that to the whole input.
  pub record RunsInMemory (request : Request) (found : Files) : Type 0 where
    pub ends : RunEnds src (to_memory files out request.output) err result
        (stdin_needed request found) (λ _. program request found src.old.left)
    pub taken : Taken (stdin_needed request found) src
    pub opened : files.new.log ≡ logged files.old.log (opened_paths request found)

  pub record EndsInMemory (kinds : Kinds) (requested : Option (Result Request Fault))
      : Type 0 where
    -- the program ends as it does over any files
    pub ends : Ends files src out err result kinds requested
    -- a request runs over the files in memory, unless an allocation fails
    pub runs : (request : Request) → kinds ≡ [] → requested ≡ Some (Ok request)
        → result ≢ OutOfMemory
        → RunsInMemory request (files_at (file_at files.old.entries) request)
