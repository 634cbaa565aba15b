-- The permissions of the output.
use Rattle.vault_files.specs.declared.access.Access.{Access}
use Rattle.vault_files.specs.declared.access.Access.TheVariants.{Kept, OwnerOnly}
use Rattle.vault_request.specs.declared.command_name.CommandName.{CommandName}
use Rattle.vault_request.specs.declared.command_name.CommandName.TheVariants.{Decrypt, View}

-- the permissions of an existing output: only its owner may read and write plaintext
abbrev pub output_access : CommandName → Access
output_access Decrypt = OwnerOnly
output_access View = OwnerOnly
output_access _ = Kept
