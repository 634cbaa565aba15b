-- Which paths are opened of files that can be read.
use Rattle.std.proofs.Common.{◌≡◌, ℕ, ◌+◌, List, [], ◌∷◌, ◌++◌, Ok, refl, append_assoc}
use Rattle.std.specs.Prelude.{option_to_list}
use Rattle.vault_files.specs.File.{FileState, Found}
use Rattle.vault_fault.specs.declared.fault.Role.TheVariants.{Secret}
use Rattle.vault_core.specs.declared.limits.TheConstants.{PASSWORD_FILE_LIMIT}
use Rattle.vault_request.specs.Request.{Request}
use Rattle.vault_cli.specs.runs.FileContents.{contents_of, file_prefix, secret_paths}
use Rattle.vault_cli.specs.OpenedPaths.{unless_refused, opened_paths, opened_secrets}
use Rattle.vault_cli.specs.Program.{Files, file_salt}
use Rattle.vault_cli.proofs.AnswerLemmas.{steps-ok}

-- all password files gave their bytes
opened-secrets : (finds : List ℕ → FileState → Type 0) (paths : List (List ℕ))
    (files : List FileState) (contents : List (List ℕ))
    → Found finds paths files → contents_of files ≡ Ok contents → opened_secrets paths files ≡ paths
unfolding opened_secrets contents_of
opened-secrets finds [] files contents found e = refl
opened-secrets finds (path ∷ paths) [] contents found e = absurd found
opened-secrets finds (path ∷ paths) (file ∷ files) contents found e =
    let (bytes, read, left) =
    steps-ok (file_prefix Secret (PASSWORD_FILE_LIMIT + 1) file) _ contents e in
    let (others, rest, all) = steps-ok (contents_of files) _ contents left in
    rw (read, opened-secrets finds paths files others found.1 rest)

-- all password files, the salt file, and what is after it
pub opened_paths-found : (finds : List ℕ → FileState → Type 0) (request : Request) (files : Files)
    (contents : List (List ℕ)) → Found finds (secret_paths request) files.secrets
    → contents_of files.secrets ≡ Ok contents
    → opened_paths request files
    ≡ (secret_paths request ++ option_to_list request.salt_path)
    ++ unless_refused (file_salt files.salt) (option_to_list request.input)
opened_paths-found finds request files contents found read =
    rw (
      opened-secrets finds (secret_paths request) files.secrets contents found read,
      read,
      append_assoc,
    )
