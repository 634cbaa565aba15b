-- The command line as the parser reads it.
use Rattle.std.specs.Prelude.{true, false, List, [], ◌∷◌, ◌++◌, Some, codes}
use Rattle.clap.specs.Simple.{App, Shape, new_rule, new_shape}
use Rattle.clap.specs.Walk.{Rule, Text}
use Rattle.clap.specs.declared.builder.action.ArgAction.{ArgAction}
use Rattle.clap.specs.declared.builder.action.ArgAction.TheVariants.{Append, Set, SetTrue}

-- an option with a value
abbrev pub valued : ArgAction → Text → Rule
valued action name =
    record (new_rule name) { long = Some name; action = Some action; value_names = 1 }

-- an option with a value, given at most once
abbrev pub option : Text → Rule
option name = valued Set name

-- an option with a value that may be repeated
abbrev pub repeated : Text → Rule
repeated name = valued Append name

-- an option without a value
abbrev pub flag : Text → Rule
flag name = record (new_rule name) { long = Some name; action = Some SetTrue }

-- a positional argument
abbrev pub positional : Text → Rule
positional name = record (new_rule name) { action = Some Set }

-- the options that name password files
abbrev pub secret_rules : List Rule
secret_rules = repeated (codes "vault-id") ∷ repeated (codes "vault-password-file") ∷ []

-- the options for the salt
abbrev pub salt_rules : List Rule
salt_rules = option (codes "salt-file") ∷ option (codes "salt") ∷ []

-- the options that name the password file of a new secret
abbrev pub new_secret_rules : List Rule
new_secret_rules = option (codes "new-vault-id") ∷ option (codes "new-vault-password-file") ∷ []

-- `-n` is short for `--name`
abbrev pub name_rule : Rule
name_rule = record (option (codes "name")) { short = Some 110 }

-- the options that name the variable of a block
abbrev pub name_rules : List Rule
name_rules = name_rule ∷ option (codes "stdin-name") ∷ []

-- a command with a name and the arguments it takes
abbrev pub shape_with : Text → List Rule → Shape
shape_with name rules = record (new_shape name) { rules = rules }

-- that command by itself
abbrev pub app_with : Text → List Rule → App
app_with name rules = record { top = shape_with name rules; subs = [] }

-- plaintext to an envelope
abbrev pub encrypt : App
encrypt = app_with (codes "encrypt")
    (secret_rules ++ salt_rules
    ++ option (codes "encrypt-vault-id") ∷ option (codes "output") ∷ positional (codes "FILE")
    ∷ [])

-- an envelope to plaintext
abbrev pub decrypt : App
decrypt = app_with (codes "decrypt")
    (secret_rules
    ++ flag (codes "require-id-match") ∷ option (codes "output") ∷ positional (codes "FILE") ∷ [])

-- an envelope to plaintext on standard output
abbrev pub view : App
view = app_with (codes "view")
    (secret_rules ++ flag (codes "require-id-match") ∷ positional (codes "FILE") ∷ [])

-- an envelope to an envelope under another secret
abbrev pub rekey : App
rekey = app_with (codes "rekey")
    (secret_rules ++ salt_rules ++ new_secret_rules
    ++ flag (codes "require-id-match") ∷ option (codes "output") ∷ positional (codes "FILE") ∷ [])

-- a STRING or plaintext to a YAML block
abbrev pub encrypt_string : App
encrypt_string = app_with (codes "encrypt_string")
    (secret_rules ++ salt_rules ++ name_rules
    ++ option (codes "encrypt-vault-id") ∷ option (codes "output") ∷ positional (codes "STRING")
    ∷ [])

-- a command is required, and there is no command `help`
abbrev pub top_shape : Shape
top_shape = record (new_shape (codes "ansible-vault")) {
  has_version = true;
  subcommand_required = true;
  disable_help_subcommand = true;
}

-- the program's command line
unfoldable pub vault_app : App
vault_app = record {
  top = record top_shape { is_leaf = false };
  subs = encrypt.top ∷ decrypt.top ∷ view.top ∷ rekey.top ∷ encrypt_string.top ∷ [];
}
