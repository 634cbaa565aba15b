-- The contents of a request's files, as far as they are read.
use Rattle.std.specs.Prelude.{ℕ, ◌+◌, List, [], ◌∷◌, ◌++◌, map, option_to_list, Option, Some, None}
use Rattle.std.specs.Prelude.{Result, Ok}
use Rattle.std.specs.Result.{result_map_both}
use Rattle.vault_fault.specs.declared.fault.Fault.{Fault}
use Rattle.vault_fault.specs.declared.fault.Fault.TheVariants.{CannotOpen, Read}
use Rattle.vault_fault.specs.declared.fault.Role.{Role}
use Rattle.vault_fault.specs.declared.fault.Role.TheVariants.{Secret}
use Rattle.vault_core.specs.declared.limits.TheConstants.{PASSWORD_FILE_LIMIT}
use Rattle.vault_files.specs.File.{FileState, prefix}
use Rattle.vault_files.specs.declared.fault.FileFault.{FileFault}
use Rattle.vault_files.specs.declared.fault.FileFault.TheVariants as file
use Rattle.vault_text.specs.Steps.{◌>>=◌}
use Rattle.vault_request.specs.Request.{Request, files_of}

-- what is found at a path, if there is one
abbrev pub AtPath : {A : Type 0} → (List ℕ → A → Type 0) → Option (List ℕ) → Option A → Type 0
AtPath finds None None = Unit {0}
AtPath finds None (Some found) = ⊥
AtPath finds (Some path) None = ⊥
AtPath finds (Some path) (Some found) = finds path found

-- the fault of a file in its role
abbrev pub file_fault : Role → FileFault → Fault
file_fault role file.CannotOpen = CannotOpen role
file_fault role file.CannotRead = Read role

-- the first bytes of a file in its role
abbrev pub file_prefix : Role → ℕ → FileState → Result (List ℕ) Fault
file_prefix role limit file = result_map_both (λ bytes. bytes) (file_fault role) (prefix limit file)

-- the paths of the password files, in order
abbrev pub secret_paths : Request → List (List ℕ)
secret_paths request = map (λ file. file.path) (files_of request)

-- all paths that a request asks for: its password files, in order, its salt file and its input file
abbrev pub request_paths : Request → List (List ℕ)
request_paths request =
    secret_paths request ++ option_to_list request.salt_path ++ option_to_list request.input

-- the contents of password files, each up to one byte past the limit, or the fault of the first one
-- that has a fault
unfoldable pub contents_of : List FileState → Result (List (List ℕ)) Fault
contents_of [] = Ok []
contents_of (file ∷ files) = do
  bytes ← file_prefix Secret (PASSWORD_FILE_LIMIT + 1) file
  contents ← contents_of files
  Ok (bytes ∷ contents)
