-- Which of the secrets is used to encrypt.
use Rattle.std.specs.Prelude.{ℕ, List, [], ◌∷◌, position, Option, Some, None, Result, Ok, Err}
use Rattle.std.specs.Option.{ok_or}
use Rattle.vault_fault.specs.declared.fault.Fault.{Fault}
use Rattle.vault_fault.specs.declared.fault.Fault.TheVariants as fault
use Rattle.vault_core.specs.Secrets.{Secret, has_label}
use Rattle.vault_core.specs.declared.choice.ChoiceFault.{ChoiceFault}
use Rattle.vault_core.specs.declared.choice.ChoiceFault.TheVariants.{NoEncryptSecret}
use Rattle.vault_core.specs.declared.choice.ChoiceFault.TheVariants.{ManyEncryptSecrets}
use Rattle.vault_core.specs.declared.choice.ChoiceFault.TheVariants.{UnknownEncryptId}

-- the index, from 0, of the first secret with the label, or of the only secret if no label is given
unfoldable pub chosen_index : List Secret → Option (List ℕ) → Result ℕ ChoiceFault
chosen_index [] label = Err NoEncryptSecret
chosen_index (only ∷ []) None = Ok 0
chosen_index (first ∷ second ∷ others) None = Err ManyEncryptSecrets
chosen_index (first ∷ others) (Some label) =
    ok_or (position (has_label label) (first ∷ others)) UnknownEncryptId

-- the fault with the same name as a choice fault
abbrev pub of_choice : ChoiceFault → Fault
of_choice NoEncryptSecret = fault.NoEncryptSecret
of_choice ManyEncryptSecrets = fault.ManyEncryptSecrets
of_choice UnknownEncryptId = fault.UnknownEncryptId
