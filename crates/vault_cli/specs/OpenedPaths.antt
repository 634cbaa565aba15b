-- Which paths are opened, in order: up to and including the first that cannot be opened or read.
use Rattle.std.specs.Prelude.{ℕ, ◌+◌, List, [], ◌∷◌, ◌++◌, option_to_list, Result}
use Rattle.std.specs.Prelude.{Ok, Err}
use Rattle.vault_files.specs.File.{FileState}
use Rattle.vault_fault.specs.declared.fault.Fault.{Fault}
use Rattle.vault_fault.specs.declared.fault.Role.TheVariants.{Secret}
use Rattle.vault_core.specs.declared.limits.TheConstants.{PASSWORD_FILE_LIMIT}
use Rattle.vault_cli.specs.runs.FileContents.{contents_of, file_prefix, secret_paths}
use Rattle.vault_cli.specs.Program.{Files, file_salt}
use Rattle.vault_request.specs.Request.{Request}

-- no paths after a step that refuses
abbrev pub unless_refused : {T : Type 0} → Result T Fault → List (List ℕ) → List (List ℕ)
unless_refused (Ok value) paths = paths
unless_refused (Err fault) paths = []

-- the opened paths of password files
unfoldable pub opened_secrets : List (List ℕ) → List FileState → List (List ℕ)
opened_secrets [] files = []
opened_secrets (path ∷ paths) [] = []
opened_secrets (path ∷ paths) (file ∷ files) =
    path
    ∷ unless_refused (file_prefix Secret (PASSWORD_FILE_LIMIT + 1) file)
    (opened_secrets paths files)

-- the opened paths of all files of a request
abbrev pub opened_paths : Request → Files → List (List ℕ)
opened_paths request files =
    opened_secrets (secret_paths request) files.secrets
    ++ unless_refused (contents_of files.secrets) (option_to_list request.salt_path
    ++ unless_refused (file_salt files.salt) (option_to_list request.input))
