-- What is known of options that are not refused.
use Rattle.std.proofs.Common.{◌≡◌, ℕ, ◌≤◌, ◌==◌, ◌||◌, nat_lt, Bool, true, false, List}
use Rattle.std.proofs.Common.{◌++◌, length, map, Option, Some, None, inl, inr, rules, tests, refl}
use Rattle.std.proofs.lemmas.Bool.{cases_Bool, ltb-false, not-false}
use Rattle.std.proofs.lemmas.List.{length-append, length-map}
use Rattle.std.specs.List.{AllByRecursion}
use Rattle.std.specs.Option.{option_map, option_or}
use Rattle.std.specs.Prelude.{if◌then◌else◌, IfSome, is_some, option_to_list}
use Rattle.vault_text.specs.Label.{is_label}
use Rattle.vault_fault.specs.declared.fault.Fault.{Fault}
use Rattle.vault_fault.specs.declared.fault.Fault.TheVariants.{BadLabel, BadSalt, TooManySecrets}
use Rattle.vault_fault.specs.declared.limits.TheConstants.{SECRET_COUNT_LIMIT}
use Rattle.vault_request.specs.CommandName.{rekeys}
use Rattle.vault_request.specs.Options.{Options}
use Rattle.vault_request.specs.Refusal.{count_fault, label_fault, mismatch_fault, name_fault}
use Rattle.vault_request.specs.Refusal.{new_secret_fault, output_fault, refusal, rekey_fault}
use Rattle.vault_request.specs.Refusal.{salt_fault}
use Rattle.vault_request.specs.Request.{IsSaltText, SecretFile}
use Rattle.vault_request.specs.Settled.{file_of_id, new_secret_of, file_of_path}
use Rattle.std.specs.Option.{option_or}
use Rattle.vault_request.specs.VaultId.{fault_of_id, first_fault, label_of_id}
use Rattle.vault_request.specs.declared.limits.TheConstants.{SALT_TEXT_LIMIT}

pub neither : (first later : Option Fault) → option_or first later ≡ None
    → (first ≡ None) × (later ≡ None)
neither None later e = (refl, e)
neither (Some fault) later e = cc

pub record IsAllowed (given : Options) : Type 0 where
  pub count : count_fault given ≡ None
  pub ids : first_fault given.vault_ids ≡ None
  pub rekey : rekey_fault given ≡ None
  pub salt : salt_fault given.salt_text given.salt_file ≡ None

pub allowed : (given : Options) → refusal given ≡ None → IsAllowed given
unfolding refusal
allowed given e =
    let a = neither (count_fault given) _ e in
    let b = neither (first_fault given.vault_ids) _ a.1 in
    let c = neither (label_fault given.encrypt_vault_id) _ b.1 in
    let d = neither (rekey_fault given) _ c.1 in
    let f = neither (mismatch_fault given) _ d.1 in
    let g = neither (name_fault given.name) _ f.1 in
    let h = neither (name_fault given.stdin_name) _ g.1 in
    let i = neither (output_fault given) _ h.1 in
    let j = neither (salt_fault given.salt_text given.salt_file) _ i.1 in
    record { count = a.0; ids = b.0; rekey = d.0; salt = j.0 }

-- what is not refused
fine : (bad : Bool) (fault : Fault) (rest : Option Fault)
    → (if bad then Some fault else rest) ≡ None → bad ≡ false
fine true fault rest e = absurd cc
fine false fault rest e = refl

-- there are at most as many secrets as the limit
pub few_files : (given : Options) → count_fault given ≡ None
    → length (map file_of_id given.vault_ids ++ map file_of_path given.password_files)
    ≤ SECRET_COUNT_LIMIT
few_files given e =
    simp (length-append, length-map) (ltb-false _ _ (fine _ TooManySecrets None e))

-- a salt text has its length
pub salt_texts : (text path : Option (List ℕ)) → salt_fault text path ≡ None
    → IfSome text IsSaltText
salt_texts None path e = tt
salt_texts (Some text) (Some path) e = cc
salt_texts (Some text) None e =
    let good : (length text == 0 || nat_lt SALT_TEXT_LIMIT (length text)) ≡ false =
    fine _ BadSalt None e in
    record { some = search (rules, tests, good); limit = search (rules, tests, good) }

-- all labels are labels
abbrev pub AreLabelled : List SecretFile → Type 0
AreLabelled files = AllByRecursion (λ file. is_label file.label ≡ true) files

-- a vault id without a fault
pub label-id : (id : List ℕ) → fault_of_id id ≡ None → is_label (label_of_id id) ≡ true
label-id id e = not-false _ (fine _ BadLabel _ e)

-- `rekey` has its new secret, whose label is one, and no other command has one
pub new_secrets : (given : Options) → rekey_fault given ≡ None
    → (is_some (new_secret_of given) ≡ rekeys given.command)
    × AreLabelled (option_to_list (new_secret_of given))
new_secrets given e =
    elim (cases_Bool (rekeys given.command)) [
      | inl does ↦ rw does (some_new given.new_vault_id given.new_password_file (rw does at e))
      | inr other ↦ rw other (refl, tt)
    ]
  where
    some_new : (id path : Option (List ℕ)) → new_secret_fault id path ≡ None
        → let file = option_or (option_map file_of_id id) (option_map file_of_path path) in
        (is_some file ≡ true) × AreLabelled (option_to_list file)
    some_new None None h = absurd cc
    some_new None (Some path) h = (refl, (refl, tt))
    some_new (Some id) None h = (refl, (label-id id h, tt))
    some_new (Some id) (Some path) h = absurd cc
