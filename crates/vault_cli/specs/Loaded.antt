-- What loading the files of a request gives, for files that may be found at its paths.
use Rattle.std.specs.Prelude.{◌≡◌, ℕ, List, Option, Result, Err}
use Rattle.vault_fault.specs.declared.fault.Fault.{Fault}
use Rattle.vault_fault.specs.declared.fault.Role.{Role}
use Rattle.vault_files.specs.File.{FileState, Found}
use Rattle.vault_cli.specs.Drive.{AllFound}
use Rattle.vault_cli.specs.runs.FileContents.{AtPath, contents_of, file_prefix}
use Rattle.vault_cli.specs.OpenedPaths.{opened_paths, opened_secrets}
use Rattle.vault_cli.specs.Program.{Files, file_salt, task_over}
use Rattle.vault_request.specs.Request.{Request}

-- a file that may be found gives this answer
abbrev pub PrefixFound : (FileState → Type 0) → Role → ℕ → Result (List ℕ) Fault → Type 0
PrefixFound finds role limit answer =
    (file : FileState) × finds file × (file_prefix role limit file ≡ answer)

-- password files that may be found at the paths give this answer
abbrev pub ContentsFound : (List ℕ → FileState → Type 0)
    → List (List ℕ) → Result (List (List ℕ)) Fault → Type 0
ContentsFound finds paths answer =
    (files : List FileState) × Found finds paths files × (contents_of files ≡ answer)

-- the salt file that may be found at a path, if there is one, gives this answer
abbrev pub SaltFound : (List ℕ → FileState → Type 0) → Option (List ℕ) → Result (List ℕ) Fault
    → Type 0
SaltFound finds path answer =
    (file : Option FileState) × AtPath finds path file × (file_salt file ≡ answer)

-- password files that may be found at the paths refuse, and the paths up to the first that does
-- were opened
abbrev pub SecretsRefuse : (List ℕ → FileState → Type 0) → (List (List ℕ) → Type 0)
    → List (List ℕ) → Fault → Type 0
SecretsRefuse finds opens paths fault = (files : List FileState) × Found finds paths files
    × (contents_of files ≡ Err fault) × opens (opened_secrets paths files)

-- the same for files that may be found at the paths of a request
abbrev pub RefusedBy : (List ℕ → FileState → Type 0) → (List (List ℕ) → Type 0)
    → Request → Fault → Type 0
RefusedBy finds opens request fault = (files : Files) × AllFound finds request files
    × (task_over request files ≡ Err fault) × opens (opened_paths request files)
