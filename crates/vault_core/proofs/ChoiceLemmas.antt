-- The answers of a choice, by how many secrets there are.
use Rattle.std.proofs.Common.{◌≡◌, ◌==◌, ℕ, ◌<◌, List, [], ◌∷◌, length, Option, Some, None, Result}
use Rattle.std.proofs.Common.{Ok, Err, arith, refl}
use Rattle.std.specs.Prelude.{IfOk, if◌then◌else◌, position}
use Rattle.std.proofs.lemmas.Bool.{ne_eqb}
use Rattle.std.proofs.lemmas.List.Quantifiers.{position-Some}
use Rattle.std.specs.Option.{ok_or}
use Rattle.vault_core.specs.Choice.{chosen_index}
use Rattle.vault_core.specs.Secrets.{Secret, has_label}
use Rattle.vault_core.specs.declared.choice.ChoiceFault.{ChoiceFault}
use Rattle.vault_core.specs.declared.choice.ChoiceFault.TheVariants.{NoEncryptSecret}
use Rattle.vault_core.specs.declared.choice.ChoiceFault.TheVariants.{ManyEncryptSecrets}
use Rattle.vault_core.specs.declared.choice.ChoiceFault.TheVariants.{UnknownEncryptId}

-- the choice from some secrets
abbrev pub choice_of : List Secret → Option (List ℕ) → Result ℕ ChoiceFault
choice_of secrets None = if length secrets == 1 then Ok 0 else Err ManyEncryptSecrets
choice_of secrets (Some label) = ok_or (position (has_label label) secrets) UnknownEncryptId

pub chosen_index-is : (secrets : List Secret) (label : Option (List ℕ))
    → chosen_index secrets label
    ≡ (if length secrets == 0 then Err NoEncryptSecret else choice_of secrets label)
unfolding chosen_index
chosen_index-is [] label = refl
chosen_index-is (only ∷ []) None = refl
chosen_index-is (only ∷ []) (Some label) = refl
chosen_index-is (first ∷ second ∷ others) None =
    let n = length (first ∷ second ∷ others) in
    rw (ne_eqb n 0 (omega arith), ne_eqb n 1 (omega arith)) refl
chosen_index-is (first ∷ second ∷ others) (Some label) =
    rw (ne_eqb (length (first ∷ second ∷ others)) 0 (omega arith)) refl

-- an index that is found lies within the list
found-within : (secrets : List Secret) (label : List ℕ) (found : Option ℕ)
    → position (has_label label) secrets ≡ found
    → IfOk (ok_or found UnknownEncryptId) (λ index. index < length secrets)
found-within secrets label None known = tt
found-within secrets label (Some index) known =
    (position-Some (has_label label) secrets index (record { label = []; password = [] }) known).0

chosen_index-within : (secrets : List Secret) (label : Option (List ℕ))
    → IfOk (chosen_index secrets label) (λ index. index < length secrets)
unfolding chosen_index
chosen_index-within [] label = tt
chosen_index-within (only ∷ []) None = omega arith
chosen_index-within (first ∷ second ∷ others) None = tt
chosen_index-within (only ∷ []) (Some label) = found-within (only ∷ []) label _ refl
chosen_index-within (first ∷ second ∷ others) (Some label) =
    found-within (first ∷ second ∷ others) label _ refl

pub IfOk-within : (secrets : List Secret) (label : Option (List ℕ)) (answer : Result ℕ ChoiceFault)
    → answer ≡ chosen_index secrets label
    → IfOk answer (λ index. index < length secrets)
IfOk-within secrets label answer is = rw is (chosen_index-within secrets label)
