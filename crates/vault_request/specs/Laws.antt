-- Laws of requests.
use Rattle.std.specs.Prelude.{◌≡◌, ◌≢◌, List, [], None, true, Ok}
use Rattle.std.specs.List.{AllByRecursion}
use Rattle.clap.specs.Walk.{Row}
use Rattle.clap.specs.Words.{Text, fault_of}
use Rattle.vault_text.specs.Label.{is_label}
use Rattle.vault_request.specs.CommandLine.{vault_app}
use Rattle.vault_request.specs.Request.{IsSettled, Request, files_of}
use Rattle.vault_request.specs.Settled.{requested_by, settled}
use Rattle.vault_request.specs.declared.command_name.CommandName.{CommandName}
use Rattle.vault_request.specs.declared.command_name.CommandName.TheVariants.{EncryptString}

-- arguments without a fault name a command, so every command line either asks for something or is
-- explained
abbrev pub WordsNameACommand : Type 0
WordsNameACommand = (words : List Text) → fault_of vault_app words ≡ [] → requested_by words ≢ None

-- a settled request: its labels are valid, and only `encrypt_string` has a STRING
pub record IsRequest (request : Request) : Type 0 where
  pub settled : IsSettled request.command request.secrets request.new_secret request.salt_text
  pub labels : AllByRecursion (λ file. is_label file.label ≡ true) (files_of request)
  pub string : request.command ≢ EncryptString → request.string ≡ None

-- settling makes only such requests
abbrev pub SettledRequests : Type 0
SettledRequests =
    (command : CommandName) (rows : List Row) (request : Request)
    → settled command rows ≡ Ok request → IsRequest request
