-- The values of `--vault-id`: a source, or a label, `@` and a source.
use Rattle.std.specs.Prelude.{ℕ, ◌==◌, nat_lt, not, Bool, if◌then◌else◌, List, [], ◌∷◌, length}
use Rattle.std.specs.Prelude.{codes, Option, Some, None}
use Rattle.std.specs.List.{before_first, after_first, position_or_len}
use Rattle.std.specs.Option.{option_or}
use Rattle.std.specs.Str.{bytes_eq}
use Rattle.vault_text.specs.Header.{label_or_default}
use Rattle.vault_text.specs.Label.{is_label}
use Rattle.vault_fault.specs.declared.fault.Fault.{Fault}
use Rattle.vault_fault.specs.declared.fault.Fault.TheVariants.{BadLabel, PromptSource}

-- `@`
abbrev pub is_at_sign : ℕ → Bool
is_at_sign b = b == 64

-- the vault id has an `@`
abbrev pub has_at_sign : List ℕ → Bool
has_at_sign id = nat_lt (position_or_len is_at_sign id) (length id)

-- the part before the first `@`
abbrev pub label_part : List ℕ → List ℕ
label_part id = if has_at_sign id then before_first is_at_sign id else []

-- the part after the first `@`, or all if there is none
abbrev pub source_of_id : List ℕ → List ℕ
source_of_id id = if has_at_sign id then after_first is_at_sign id else id

-- the label `default` if nothing comes before an `@`, or if there is none
abbrev pub label_of_id : List ℕ → List ℕ
label_of_id id = label_or_default (label_part id)

-- why a vault id is refused: first for its label, then for a source that would prompt
abbrev pub fault_of_id : List ℕ → Option Fault
fault_of_id id =
    if not (is_label (label_of_id id)) then Some BadLabel
    else if bytes_eq (source_of_id id) (codes "prompt") then Some PromptSource
    else None

-- the fault of the first vault id that has one
abbrev pub first_fault : List (List ℕ) → Option Fault
first_fault [] = None
first_fault (id ∷ ids) = option_or (fault_of_id id) (first_fault ids)
