-- The values under the options of a command.
use Rattle.std.specs.Prelude.{◌&&◌, ℕ, not, Bool, false, if◌then◌else◌, List, [], codes, unwrap_or}
use Rattle.std.specs.Prelude.{Option, Some, None}
use Rattle.std.specs.Str.{bytes_eq}
use Rattle.clap.specs.Walk.{Row, all_of, first_of}
use Rattle.vault_fault.specs.declared.label_rule.LabelRule.{LabelRule}
use Rattle.vault_fault.specs.declared.label_rule.LabelRule.TheVariants.{Hint, Required}
use Rattle.vault_request.specs.CommandName.{encrypts, has_output, rekeys, seals, takes_string}
use Rattle.vault_request.specs.Dash.{unless_dash}
use Rattle.vault_request.specs.declared.command_name.CommandName.{CommandName}

-- the values that a command was given under its options
pub record Options : Type 0 where
  pub command : CommandName
  pub vault_ids : List (List ℕ)
  pub password_files : List (List ℕ)
  pub encrypt_vault_id : Option (List ℕ)
  pub new_vault_id : Option (List ℕ)
  pub new_password_file : Option (List ℕ)
  pub name : Option (List ℕ)
  pub stdin_name : Option (List ℕ)
  pub string : Option (List ℕ)
  pub salt_file : Option (List ℕ)
  pub salt_text : Option (List ℕ)
  pub rule : LabelRule
  pub file : Option (List ℕ)
  pub output : Option (List ℕ)

-- the values under an option, in order
abbrev pub values_of : List ℕ → List Row → List (List ℕ)
values_of option rows = unwrap_or (all_of option rows) []

-- the value under an option, if the command has it
abbrev pub value_if : Bool → List ℕ → List Row → Option (List ℕ)
value_if has option rows = if has then first_of option rows else None

-- the parser gives `true` as the value of a flag that was given
abbrev pub is_true : Option (List ℕ) → Bool
is_true None = false
is_true (Some value) = bytes_eq value (codes "true")

-- a flag that was given
abbrev pub is_given : List ℕ → List Row → Bool
is_given flag rows = is_true (first_of flag rows)

-- the flag makes the label of an envelope binding, for the commands that decrypt one
abbrev pub rule_of : CommandName → List Row → LabelRule
rule_of command rows =
    if not (encrypts command) && is_given (codes "require-id-match") rows then Required else Hint

-- the values under each option
abbrev pub options_of : CommandName → List Row → Options
options_of command rows = record {
  command = command;
  vault_ids = values_of (codes "vault-id") rows;
  password_files = values_of (codes "vault-password-file") rows;
  encrypt_vault_id = value_if (encrypts command) (codes "encrypt-vault-id") rows;
  new_vault_id = value_if (rekeys command) (codes "new-vault-id") rows;
  new_password_file = value_if (rekeys command) (codes "new-vault-password-file") rows;
  name = value_if (takes_string command) (codes "name") rows;
  stdin_name = value_if (takes_string command) (codes "stdin-name") rows;
  string = unless_dash (value_if (takes_string command) (codes "STRING") rows);
  salt_file = value_if (seals command) (codes "salt-file") rows;
  salt_text = value_if (seals command) (codes "salt") rows;
  rule = rule_of command rows;
  file = unless_dash (value_if (not (takes_string command)) (codes "FILE") rows);
  output = value_if (has_output command) (codes "output") rows;
}
