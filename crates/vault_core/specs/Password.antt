-- Password files and the passwords in them.
use Rattle.std.specs.Prelude.{ℕ, ◌==◌, ◌≤◌, nat_eq, nat_lt, if◌then◌else◌, List, length, codes}
use Rattle.std.specs.Prelude.{Result, Ok, Err}
use Rattle.std.specs.List.{starts_with}
use Rattle.vault_fault.specs.declared.fault.Fault.{Fault}
use Rattle.vault_fault.specs.declared.fault.Fault.TheVariants as fault
use Rattle.vault_text.specs.Header.{marker}
use Rattle.vault_text.specs.Whitespace.{strip}
use Rattle.vault_core.specs.declared.limits.TheConstants.{PASSWORD_FILE_LIMIT}
use Rattle.vault_core.specs.declared.password.SecretFault.{SecretFault}
use Rattle.vault_core.specs.declared.password.SecretFault.TheVariants.{SecretTooLong}
use Rattle.vault_core.specs.declared.password.SecretFault.TheVariants.{SecretIsScript}
use Rattle.vault_core.specs.declared.password.SecretFault.TheVariants.{SecretIsVault, SecretEmpty}

-- the password has an allowed length
abbrev pub IsPassword : List ℕ → Type 0
IsPassword password = (1 ≤ length password) × (length password ≤ PASSWORD_FILE_LIMIT)

-- the bytes of a password file without the whitespace at both ends, or the first fault
unfoldable pub password_of : List ℕ → Result (List ℕ) SecretFault
password_of file =
    if nat_lt PASSWORD_FILE_LIMIT (length file) then Err SecretTooLong
    else if starts_with nat_eq file (codes "#!") then Err SecretIsScript
    else if starts_with nat_eq file marker then Err SecretIsVault
    else if length (strip file) == 0 then Err SecretEmpty
    else Ok (strip file)

-- the fault with the same name as a secret fault
abbrev pub of_secret : SecretFault → Fault
of_secret SecretTooLong = fault.SecretTooLong
of_secret SecretIsScript = fault.SecretIsScript
of_secret SecretIsVault = fault.SecretIsVault
of_secret SecretEmpty = fault.SecretEmpty
