-- The commands, and what each does.
use Rattle.std.specs.Prelude.{◌||◌, ℕ, Bool, true, false, if◌then◌else◌, List, codes, Option, Some}
use Rattle.std.specs.Prelude.{None}
use Rattle.std.specs.Str.{bytes_eq}
use Rattle.vault_request.specs.declared.command_name.CommandName.{CommandName}
use Rattle.vault_request.specs.declared.command_name.CommandName.TheVariants.{Encrypt, Decrypt}
use Rattle.vault_request.specs.declared.command_name.CommandName.TheVariants.{View, Rekey}
use Rattle.vault_request.specs.declared.command_name.CommandName.TheVariants.{EncryptString}

-- the command with a name
abbrev pub command_of : List ℕ → Option CommandName
command_of name =
    if bytes_eq name (codes "encrypt") then Some Encrypt
    else if bytes_eq name (codes "decrypt") then Some Decrypt
    else if bytes_eq name (codes "view") then Some View
    else if bytes_eq name (codes "rekey") then Some Rekey
    else if bytes_eq name (codes "encrypt_string") then Some EncryptString
    else None

-- the commands that encrypt plaintext; the others decrypt an envelope
abbrev pub encrypts : CommandName → Bool
encrypts Encrypt = true
encrypts EncryptString = true
encrypts _ = false

-- the command that seals an envelope again, under a new secret
abbrev pub rekeys : CommandName → Bool
rekeys Rekey = true
rekeys _ = false

-- the commands that need a salt
abbrev pub seals : CommandName → Bool
seals command = encrypts command || rekeys command

-- `encrypt_string` takes a STRING, every other command a FILE
abbrev pub takes_string : CommandName → Bool
takes_string EncryptString = true
takes_string _ = false

-- the output of `view` is never a file
abbrev pub has_output : CommandName → Bool
has_output View = false
has_output _ = true
