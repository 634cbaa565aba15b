-- What a request asks for.
use Rattle.std.specs.Prelude.{◌≡◌, ◌≤◌, ℕ, List, ◌++◌, length, Option, option_to_list, is_some}
use Rattle.std.specs.Prelude.{IfSome}
use Rattle.vault_request.specs.CommandName.{rekeys}
use Rattle.vault_fault.specs.declared.limits.TheConstants.{SECRET_COUNT_LIMIT}
use Rattle.vault_fault.specs.declared.label_rule.LabelRule.{LabelRule}
use Rattle.vault_request.specs.declared.limits.TheConstants.{SALT_TEXT_LIMIT}
use Rattle.vault_request.specs.declared.command_name.CommandName.{CommandName}

-- a password file, and the label of its secret
pub record SecretFile : Type 0 where
  pub label : List ℕ
  pub path : List ℕ

-- a request, as a contract sees it: its secrets are the ones of `--vault-id`, then the others
pub record Request : Type 0 where
  pub command : CommandName
  pub secrets : List SecretFile
  -- the secret that `rekey` seals with
  pub new_secret : Option SecretFile
  -- the label of the secret to encrypt with
  pub choice : Option (List ℕ)
  -- the name of the variable that `encrypt_string` writes, and the STRING
  pub name : Option (List ℕ)
  pub string : Option (List ℕ)
  -- the salt, or the file it is read from; neither for a command that does not seal
  pub salt_text : Option (List ℕ)
  pub salt_path : Option (List ℕ)
  pub rule : LabelRule
  -- none stands for standard input or the STRING
  pub input : Option (List ℕ)
  -- none stands for standard output
  pub output : Option (List ℕ)

-- all password files, the new one last
abbrev pub files_of : Request → List SecretFile
files_of request = request.secrets ++ option_to_list request.new_secret

-- a salt text: at least 1 byte, and no more than the limit
pub record IsSaltText (text : List ℕ) : Type 0 where
  pub some : 1 ≤ length text
  pub limit : length text ≤ SALT_TEXT_LIMIT

-- what is known about these fields of every request
pub record IsSettled (command : CommandName) (secrets : List SecretFile)
    (new : Option SecretFile) (text : Option (List ℕ)) : Type 0 where
  pub count : length secrets ≤ SECRET_COUNT_LIMIT
  pub salt_text : IfSome text IsSaltText
  pub new_secret : is_some new ≡ rekeys command
