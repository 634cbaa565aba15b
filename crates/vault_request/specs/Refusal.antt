-- Why options are refused.
use Rattle.std.specs.Prelude.{◌+◌, ◌==◌, ◌&&◌, ◌||◌, ℕ, nat_lt, not, Bool, if◌then◌else◌, List, []}
use Rattle.std.specs.Prelude.{◌∷◌, length, Option, Some, None, is_some}
use Rattle.std.specs.List.{list_any}
use Rattle.std.specs.Option.{option_or}
use Rattle.vault_text.specs.Label.{is_label}
use Rattle.vault_fault.specs.declared.fault.Fault.{Fault}
use Rattle.vault_fault.specs.declared.fault.Fault.TheVariants.{BadLabel, BadName, BadSalt}
use Rattle.vault_fault.specs.declared.fault.Fault.TheVariants.{NameMismatch, NeedNewSecret}
use Rattle.vault_fault.specs.declared.fault.Fault.TheVariants.{OutputNeeded, SaltChoice}
use Rattle.vault_fault.specs.declared.fault.Fault.TheVariants.{TooManySecrets}
use Rattle.vault_fault.specs.declared.limits.TheConstants.{SECRET_COUNT_LIMIT}
use Rattle.vault_request.specs.CommandName.{has_output, rekeys}
use Rattle.vault_request.specs.Options.{Options}
use Rattle.vault_request.specs.VaultId.{fault_of_id, first_fault}
use Rattle.vault_request.specs.declared.limits.TheConstants.{SALT_TEXT_LIMIT}

-- a fault under a condition
abbrev pub refused_if : Bool → Fault → Option Fault
refused_if bad fault = if bad then Some fault else None

-- there are no more secrets than a list may have
abbrev pub count_fault : Options → Option Fault
count_fault given =
    let count = length given.vault_ids + length given.password_files in
    refused_if (nat_lt SECRET_COUNT_LIMIT count) TooManySecrets

-- the label of `--encrypt-vault-id` is valid
abbrev pub label_fault : Option (List ℕ) → Option Fault
label_fault None = None
label_fault (Some label) = refused_if (not (is_label label)) BadLabel

-- exactly one new secret is needed, by its vault id or by its password file
abbrev pub new_secret_fault : Option (List ℕ) → Option (List ℕ) → Option Fault
new_secret_fault None None = Some NeedNewSecret
new_secret_fault None (Some path) = None
new_secret_fault (Some id) None = fault_of_id id
new_secret_fault (Some id) (Some path) = Some NeedNewSecret

-- only `rekey` needs one
abbrev pub rekey_fault : Options → Option Fault
rekey_fault given =
    if rekeys given.command then new_secret_fault given.new_vault_id given.new_password_file
    else None

-- `--name` is for a STRING, `--stdin-name` for standard input
abbrev pub mismatch_fault : Options → Option Fault
mismatch_fault given =
    let other = if is_some given.string then given.stdin_name else given.name in
    refused_if (is_some other) NameMismatch

-- the bytes that no name contains: the bytes below the space, and DEL
abbrev pub is_control : ℕ → Bool
is_control byte = nat_lt byte 32 || byte == 127

-- a variable's name contains no ASCII control byte
abbrev pub name_fault : Option (List ℕ) → Option Fault
name_fault None = None
name_fault (Some name) = refused_if (list_any is_control name) BadName

-- a file is never rewritten in place unasked
abbrev pub output_fault : Options → Option Fault
output_fault given =
    refused_if (has_output given.command && is_some given.file && not (is_some given.output))
    OutputNeeded

-- a salt comes from a text, neither empty nor longer than the limit, or from a file, but not both
abbrev pub salt_fault : Option (List ℕ) → Option (List ℕ) → Option Fault
salt_fault None path = None
salt_fault (Some text) None =
    refused_if (length text == 0 || nat_lt SALT_TEXT_LIMIT (length text)) BadSalt
salt_fault (Some text) (Some path) = Some SaltChoice

-- the first fault, if there is one
abbrev pub first_some : List (Option Fault) → Option Fault
first_some [] = None
first_some (fault ∷ faults) = option_or fault (first_some faults)

-- the first fault of these options, in the order in which faults are checked
unfoldable pub refusal : Options → Option Fault
refusal given = first_some (
    count_fault given
    ∷ first_fault given.vault_ids
    ∷ label_fault given.encrypt_vault_id
    ∷ rekey_fault given
    ∷ mismatch_fault given
    ∷ name_fault given.name
    ∷ name_fault given.stdin_name
    ∷ output_fault given
    ∷ salt_fault given.salt_text given.salt_file
    ∷ [])
