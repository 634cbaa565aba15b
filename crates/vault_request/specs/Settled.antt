-- Settling a request from its command and the values under its options.
use Rattle.std.specs.Prelude.{◌≡◌, ◌⊎◌, ℕ, if◌then◌else◌, List, ◌++◌, map, codes, unwrap_or, Option}
use Rattle.std.specs.Prelude.{Some, None, option_and_then, is_some, Result, Ok, Err}
use Rattle.std.specs.Option.{option_map, option_or}
use Rattle.clap.specs.Walk.{Row, Text}
use Rattle.clap.specs.Words.{subcommand_of}
use Rattle.vault_text.specs.Label.{default_label}
use Rattle.vault_fault.specs.declared.fault.Fault.{Fault}
use Rattle.vault_fault.specs.declared.fault.Fault.TheVariants.{Memory}
use Rattle.vault_request.specs.CommandLine.{vault_app}
use Rattle.vault_request.specs.CommandName.{command_of, rekeys, seals}
use Rattle.vault_request.specs.Dash.{unless_dash}
use Rattle.vault_request.specs.Options.{Options, options_of}
use Rattle.vault_request.specs.Refusal.{refusal}
use Rattle.vault_request.specs.Request.{Request, SecretFile}
use Rattle.vault_request.specs.VaultId.{label_of_id, source_of_id}
use Rattle.vault_request.specs.declared.command_name.CommandName.{CommandName}

-- the password file of a vault id
abbrev pub file_of_id : List ℕ → SecretFile
file_of_id id = record { label = label_of_id id; path = source_of_id id }

-- a password file without a label of its own
abbrev pub file_of_path : List ℕ → SecretFile
file_of_path path = record { label = default_label; path = path }

-- the secret that `rekey` seals with
abbrev pub new_secret_of : Options → Option SecretFile
new_secret_of given =
    if rekeys given.command
    then option_or (option_map file_of_id given.new_vault_id)
    (option_map file_of_path given.new_password_file)
    else None

-- the salt file, `/dev/urandom` if none is given; none with a salt text, or if no salt is used
abbrev pub salt_path_of : Options → Option (List ℕ)
salt_path_of given =
    if is_some given.salt_text then None
    else if seals given.command then Some (unwrap_or given.salt_file (codes "/dev/urandom"))
    else None

-- the request of options that are not refused
abbrev pub request_of : Options → Request
request_of given = record {
  command = given.command;
  secrets = map file_of_id given.vault_ids ++ map file_of_path given.password_files;
  new_secret = new_secret_of given;
  choice = given.encrypt_vault_id;
  name = option_or given.name given.stdin_name;
  string = given.string;
  salt_text = given.salt_text;
  salt_path = salt_path_of given;
  rule = given.rule;
  input = given.file;
  output = unless_dash given.output;
}

-- the fault if there is one, or else the request
abbrev pub refused_or : Option Fault → Request → Result Request Fault
refused_or (Some fault) request = Err fault
refused_or None request = Ok request

-- the request of the given options, or their first fault
abbrev pub settled_by : Options → Result Request Fault
settled_by given = refused_or (refusal given) (request_of given)

-- the request of a command and the values under its options, or the first fault
abbrev pub settled : CommandName → List Row → Result Request Fault
settled command rows = settled_by (options_of command rows)

-- the command of a parse, if it names one, and the values under its options
abbrev pub command_in : Option (Text × List Row) → Option (CommandName × List Row)
command_in parse =
    option_and_then
    (λ given. option_map (λ command. (command, given.1)) (command_of given.0)) parse

-- the request of a parse, or its first fault, if it names a command
abbrev pub requested : Option (Text × List Row) → Option (Result Request Fault)
requested parse = option_map (λ found. settled found.0 found.1) (command_in parse)

-- the request of arguments, or the fault of their options, if they name a command
abbrev pub requested_by : List Text → Option (Result Request Fault)
requested_by words = requested (subcommand_of vault_app words)

-- what `settle` returns: what was settled, or perhaps Memory if that is a request
abbrev pub Settles : Result Request Fault → Result Request Fault → Type 0
Settles (Ok request) answer = (answer ≡ Ok request) ⊎ (answer ≡ Err Memory)
Settles (Err fault) answer = answer ≡ Err fault
