-- The task of a request, steps 9 to 11 of docs/verification-reference.md: the passwords, the
-- index of the secret to encrypt with, and the salt.
use Rattle.std.specs.Prelude.{ℕ, ◌<◌, nat_lt, if◌then◌else◌, List, [], ◌∷◌, length, take, zip}
use Rattle.std.specs.Prelude.{slice_index_or, Option, Some, None, Result, Ok, Err}
use Rattle.std.specs.Result.{result_map_both}
use Rattle.vault_core.specs.Choice.{chosen_index}
use Rattle.vault_core.specs.Choice.{of_choice}
use Rattle.vault_core.specs.Password.{of_secret}
use Rattle.vault_core.specs.Form.{Form, Envelope, Block}
use Rattle.vault_text.specs.Steps.{◌>>=◌}
use Rattle.vault_core.specs.Password.{password_of}
use Rattle.vault_core.specs.Secrets.{Secret, SecretList}
use Rattle.vault_fault.specs.declared.fault.Fault.{Fault}
use Rattle.vault_fault.specs.declared.fault.Fault.TheVariants.{NeedNewSecret, SaltShort}
use Rattle.vault_request.specs.Request.{Request, SecretFile}
use Rattle.vault_cli.specs.declared.limits.TheConstants.{SEALING_SALT_LENGTH}
use Rattle.vault_request.specs.declared.command_name.CommandName.{CommandName}
use Rattle.vault_request.specs.declared.command_name.CommandName.TheVariants as command

-- what to do with the input: encrypt it in a form, with the secret at an index; decrypt it; or
-- decrypt it and encrypt the plaintext with a new secret
pub data Task : Type 0 where
  Encrypt : (secrets : List Secret) (index : ℕ) (form : Form) (salt : List ℕ) → Task
  Decrypt : (secrets : SecretList) → Task
  Rekey : (secrets : SecretList) (new : Secret) (salt : List ℕ) → Task

-- the index of a task is in its list
abbrev pub HasValidIndex : Task → Type 0
HasValidIndex (Encrypt secrets index form salt) = index < length secrets
HasValidIndex (Decrypt secrets) = Unit {0}
HasValidIndex (Rekey secrets new salt) = Unit {0}

-- the password in a file with these bytes
abbrev pub password_or_fault : List ℕ → Result (List ℕ) Fault
password_or_fault bytes = result_map_both (λ password. password) of_secret (password_of bytes)

-- the secret of a password file with these bytes
abbrev pub secret_of : SecretFile → List ℕ → Result Secret Fault
secret_of file bytes = do
  password ← password_or_fault bytes
  Ok (record { label = file.label; password = password })

-- step 9: the secrets of password files with their bytes, in order, or the first fault
unfoldable pub secrets_of : List (SecretFile × List ℕ) → Result (List Secret) Fault
secrets_of [] = Ok []
secrets_of ((file, bytes) ∷ files) = do
  secret ← secret_of file bytes
  secrets ← secrets_of files
  Ok (secret ∷ secrets)

-- the secrets of a request, and its rule for labels
abbrev pub secret_list_of : Request → List (List ℕ) → Result SecretList Fault
secret_list_of request contents = do
  secrets ← secrets_of (zip request.secrets contents)
  Ok (record { secrets = secrets; rule = request.rule })

-- step 9 of `rekey`: its new secret, which a settled request names
abbrev pub new_secret_of : Option SecretFile → List ℕ → Result Secret Fault
new_secret_of None bytes = Err NeedNewSecret
new_secret_of (Some file) bytes = secret_of file bytes

-- step 10: the index of the secret to encrypt with
abbrev pub index_of : List Secret → Option (List ℕ) → Result ℕ Fault
index_of secrets label = result_map_both (λ index. index) of_choice (chosen_index secrets label)

-- step 11: the bytes of the salt text if there is one, or else the first 32 bytes of the salt
abbrev pub salt_of : Option (List ℕ) → List ℕ → Result (List ℕ) Fault
salt_of (Some text) salt = Ok text
salt_of None salt =
    if nat_lt (length salt) SEALING_SALT_LENGTH then Err SaltShort
    else Ok (take SEALING_SALT_LENGTH salt)

-- steps 10 and 11 of `encrypt` and `encrypt_string`
abbrev pub encrypt_task : Request → List Secret → Form → List ℕ → Result Task Fault
encrypt_task request secrets form salt = do
  index ← index_of secrets request.choice
  used ← salt_of request.salt_text salt
  Ok (Encrypt secrets index form used)

-- the end of step 9, and step 11, of `rekey`, whose last password file has these bytes
abbrev pub rekey_task : Request → SecretList → List ℕ → List ℕ → Result Task Fault
rekey_task request secrets last salt = do
  new ← new_secret_of request.new_secret last
  used ← salt_of request.salt_text salt
  Ok (Rekey secrets new used)

-- the task of each command, from the secrets without the new one, the contents of the last password
-- file, and a salt
abbrev pub command_task : CommandName → Request → SecretList → List ℕ → List ℕ → Result Task Fault
command_task command.Encrypt request list last salt =
    encrypt_task request list.secrets Envelope salt
command_task command.EncryptString request list last salt =
    encrypt_task request list.secrets (Block request.name) salt
command_task command.Decrypt request list last salt = Ok (Decrypt list)
command_task command.View request list last salt = Ok (Decrypt list)
command_task command.Rekey request list last salt = rekey_task request list last salt

-- steps 9 to 11: the task of a request, with the contents of its password files, the new secret's
-- file last, and a salt; or the first fault
unfoldable pub task_of : Request → List (List ℕ) → List ℕ → Result Task Fault
task_of request contents salt = do
  -- step 9
  list ← secret_list_of request contents
  -- the new password of `rekey`, and steps 10 and 11
  let last = slice_index_or contents (length request.secrets) [] in
      command_task request.command request list last salt
