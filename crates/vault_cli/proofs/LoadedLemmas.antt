-- The steps of loading the files of a request, by what each answers and opens.
use Rattle.std.proofs.Common.{◌≡◌, ℕ, List, ◌++◌, Option, Some, None, Result, Ok, Err}
use Rattle.std.specs.Prelude.{option_to_list}
use Rattle.std.proofs.lemmas.List.{append-nil}
use Rattle.vault_files.specs.File.{FileState}
use Rattle.vault_files.specs.File.FileState.{Missing}
use Rattle.vault_fault.specs.declared.fault.Fault.{Fault}
use Rattle.vault_fault.specs.declared.fault.Fault.TheVariants.{CannotOpen}
use Rattle.vault_fault.specs.declared.fault.Role.TheVariants.{Input, Salt}
use Rattle.vault_request.specs.Request.{Request}
use Rattle.vault_cli.specs.runs.FileContents.{AtPath, secret_paths}
use Rattle.vault_cli.specs.Loaded.{ContentsFound, PrefixFound, RefusedBy, SaltFound, SecretsRefuse}
use Rattle.vault_cli.specs.Program.{Files, task_over}
use Rattle.vault_cli.specs.declared.limits.TheConstants.{SEALING_SALT_LENGTH}
use Rattle.vault_cli.proofs.OpenedPathsLemmas.{opened_paths-found}

-- what is found at a path later was found there before
pub at_path-back : {A : Type 0} (finds later : List ℕ → A → Type 0)
    → ((path : List ℕ) (found : A) → later path found → finds path found)
    → (path : Option (List ℕ)) (found : Option A) → AtPath later path found
    → AtPath finds path found
at_path-back finds later back None None at = tt
at_path-back finds later back None (Some found) at = absurd at
at_path-back finds later back (Some path) None at = absurd at
at_path-back finds later back (Some path) (Some found) at = back path found at

pub salt-back : (finds later : List ℕ → FileState → Type 0)
    → ((path : List ℕ) (file : FileState) → later path file → finds path file)
    → (path : Option (List ℕ)) (answer : Result (List ℕ) Fault) → SaltFound later path answer
    → SaltFound finds path answer
salt-back finds later back path answer (file, seen, same) =
    (file, at_path-back finds later back path file seen, same)

-- what a buffer of the salt's length took of the salt file
pub salt-found : (finds : List ℕ → FileState → Type 0) (path : List ℕ) (at : Option (List ℕ))
    (room : ℕ) (answer : Result (List ℕ) Fault) → Some path ≡ at → room ≡ SEALING_SALT_LENGTH
    → PrefixFound (finds path) Salt room answer → SaltFound finds at answer
salt-found finds path at room answer is e (file, seen, same) =
    rw (← is) (Some file, seen, rw e at same)

-- ---- a request that the files that were found refuse

module _ (finds : List ℕ → FileState → Type 0)
    (some : (path : List ℕ) → (file : FileState) × finds path file)
    (opens : List (List ℕ) → Type 0) (request : Request) (fault : Fault) where
  one-some : (path : Option (List ℕ)) → (file : Option FileState) × AtPath finds path file
  one-some None = (None, tt)
  one-some (Some path) = (Some (some path).0, (some path).1)

  pub refused-secrets : SecretsRefuse finds opens (secret_paths request) fault
      → RefusedBy finds opens request fault
  unfolding task_over
  refused-secrets (files, seen, same, went) =
      let (salt, salt_seen) = one-some request.salt_path in
      let (input, input_seen) = one-some request.input in (
        record { secrets = files; salt = salt; input = input },
        (seen, salt_seen, input_seen),
        rw same,
        rw (same, append-nil) went,
      )

  module _ (contents : List (List ℕ))
      (read : ContentsFound finds (secret_paths request) (Ok contents)) where
    pub refused-salt : SaltFound finds request.salt_path (Err fault)
        → opens (secret_paths request ++ option_to_list request.salt_path)
        → RefusedBy finds opens request fault
    unfolding task_over
    refused-salt (salt, salt_seen, unsalted) went =
        let (files, seen, same) = read in
        let (input, input_seen) = one-some request.input in
        let found : Files = record { secrets = files; salt = salt; input = input } in (
          found,
          (seen, salt_seen, input_seen),
          rw (same, unsalted),
          rw (opened_paths-found finds request found contents seen same, unsalted, append-nil) went,
        )

    pub refused-input : (salt : List ℕ) → SaltFound finds request.salt_path (Ok salt)
        → fault ≡ CannotOpen Input → AtPath finds request.input (Some Missing)
        → opens
        ((secret_paths request ++ option_to_list request.salt_path)
        ++ option_to_list request.input)
        → RefusedBy finds opens request fault
    unfolding task_over
    refused-input salt (file, salt_seen, salted) is missing went =
        let (files, seen, same) = read in
        let found : Files = record { secrets = files; salt = file; input = Some Missing } in (
          found,
          (seen, salt_seen, missing),
          rw (same, salted, is),
          rw (opened_paths-found finds request found contents seen same, salted) went,
        )
