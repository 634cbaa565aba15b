-- What is known of a request that was settled.
use Rattle.std.proofs.Common.{◌≡◌, ◌≢◌, ℕ, List, [], ◌∷◌, ◌++◌, map, Option, Some, None, Ok, refl}
use Rattle.clap.specs.Walk.{Row}
use Rattle.vault_fault.specs.declared.fault.Fault.{Fault}
use Rattle.vault_request.specs.Laws.{SettledRequests}
use Rattle.vault_request.specs.Options.{options_of}
use Rattle.vault_request.specs.Refusal.{refusal}
use Rattle.vault_request.specs.Request.{Request, SecretFile}
use Rattle.vault_request.specs.Settled.{file_of_id, file_of_path, refused_or, request_of}
use Rattle.vault_request.specs.VaultId.{fault_of_id, first_fault}
use Rattle.vault_request.specs.declared.command_name.CommandName.{CommandName}
use Rattle.vault_request.specs.declared.command_name.CommandName.TheVariants as command
use Rattle.vault_request.proofs.RefusalLemmas.{AreLabelled, allowed, few_files, label-id, neither}
use Rattle.vault_request.proofs.RefusalLemmas.{new_secrets, salt_texts}

labels-both : (files more : List SecretFile) → AreLabelled files → AreLabelled more
    → AreLabelled (files ++ more)
labels-both [] more h g = g
labels-both (file ∷ files) more (label, labels) g = (label, labels-both files more labels g)

labels-ids : (ids : List (List ℕ)) → first_fault ids ≡ None → AreLabelled (map file_of_id ids)
labels-ids [] e = tt
labels-ids (id ∷ ids) e =
    let both = neither (fault_of_id id) (first_fault ids) e in
    (label-id id both.0, labels-ids ids both.1)

labels-plain : (paths : List (List ℕ)) → AreLabelled (map file_of_path paths)
labels-plain [] = tt
labels-plain (path ∷ paths) = (refl, labels-plain paths)

no-string : (name : CommandName) (rows : List Row) → name ≢ command.EncryptString
    → (options_of name rows).string ≡ None
no-string command.Encrypt rows other = refl
no-string command.Decrypt rows other = refl
no-string command.View rows other = refl
no-string command.Rekey rows other = refl
no-string command.EncryptString rows other = absurd (other refl)

unrefused : (fault : Option Fault) (request settled : Request)
    → refused_or fault request ≡ Ok settled → (fault ≡ None) × (request ≡ settled)
unrefused None request settled e = (refl, cc)
unrefused (Some fault) request settled e = absurd cc

pub settled_requests : SettledRequests
settled_requests name rows request e =
    let given = options_of name rows in
    let (fine, same) = unrefused (refusal given) (request_of given) request e in
    let known = allowed given fine in
    let new = new_secrets given known.rekey in
    rw (← same) (record {
      settled = record {
        count = few_files given known.count;
        salt_text = salt_texts given.salt_text given.salt_file known.salt;
        new_secret = new.0;
      };
      labels = labels-both _ _
          (labels-both _ _ (labels-ids given.vault_ids known.ids)
          (labels-plain given.password_files))
          new.1;
      string = no-string name rows;
    })
