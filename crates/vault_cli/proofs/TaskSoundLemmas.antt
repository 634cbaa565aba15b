-- What steps 9 to 11 prepare of a request: a sound task, which takes as much input as the command.
use Rattle.std.proofs.Common.{◌≡◌, ℕ, ◌<◌, ◌≤◌, nat_lt, true, List, [], ◌∷◌, ◌++◌, length, All}
use Rattle.std.proofs.Common.{length-take, Option, Some, None, Ok, refl, sym, arith}
use Rattle.std.specs.Prelude.{IfSome, option_to_list, slice_index_or, zip}
use Rattle.std.specs.List.{AllByRecursion}
use Rattle.std.proofs.lemmas.List.Elements.{All-cons, All-nil}
use Rattle.vault_text.specs.Label.{is_label}
use Rattle.vault_text.specs.declared.limits.TheConstants.{SALT_LIMIT}
use Rattle.vault_fault.specs.declared.fault.Fault.TheVariants.{SaltShort}
use Rattle.vault_core.specs.Choice.{chosen_index, of_choice}
use Rattle.vault_core.specs.Form.{Form, Envelope, Block}
use Rattle.vault_core.specs.Laws.{IsBytes}
use Rattle.vault_core.specs.Password.{of_secret, password_of}
use Rattle.vault_core.specs.Secrets.{Secret, SecretList, secret_at}
use Rattle.vault_request.specs.Laws.{IsRequest}
use Rattle.vault_request.specs.Request.{IsSaltText, Request, SecretFile}
use Rattle.vault_request.specs.declared.command_name.CommandName.{CommandName}
use Rattle.vault_request.specs.declared.command_name.CommandName.TheVariants as command
use Rattle.vault_cli.specs.runs.Answer.{input_limit, task_limit}
use Rattle.vault_cli.specs.runs.Task.{Task, Encrypt, Decrypt, Rekey, new_secret_of, secret_of}
use Rattle.vault_cli.specs.runs.Task.{encrypt_task, index_of, task_of, salt_of, secret_list_of}
use Rattle.vault_cli.specs.runs.Task.{secrets_of, command_task}
use Rattle.vault_cli.specs.declared.limits.TheConstants.{SEALING_SALT_LENGTH}
use Rattle.vault_core.proofs.SealingByteLemmas.{take-bytes}
use Rattle.vault_core.proofs.ChoiceLemmas.{IfOk-within}
use Rattle.vault_cli.proofs.StatusLemmas.{Keeps, named, next, unless}

-- a salt that is bytes, and not too long
pub record IsSalt (salt : List ℕ) : Type 0 where
  pub bytes : IsBytes salt
  pub limit : length salt ≤ SALT_LIMIT

abbrev pub IsLabelled : Secret → Type 0
IsLabelled secret = is_label secret.label ≡ true

abbrev pub HasLabel : SecretFile → Type 0
HasLabel file = is_label file.label ≡ true

-- what seals has a label, and a salt
abbrev pub IsSound : Task → Type 0
IsSound (Encrypt list index form salt) = IsLabelled (secret_at index list) × IsSalt salt
IsSound (Decrypt secrets) = Unit {0}
IsSound (Rekey secrets new salt) = IsLabelled new × IsSalt salt

keeps-salt : (text : Option (List ℕ)) (salt : List ℕ)
    → Keeps (λ used. IfSome text IsSaltText → IfSome text IsBytes → IsBytes salt → IsSalt used)
    (salt_of text salt)
keeps-salt (Some text) salt =
    λ size bytes _. record { bytes = bytes; limit = omega (arith, size.limit) }
keeps-salt None salt =
    unless _ (nat_lt (length salt) SEALING_SALT_LENGTH) SaltShort _ refl (λ _ _ bytes. record {
      bytes = take-bytes SEALING_SALT_LENGTH salt bytes;
      limit = omega (arith, length-take SEALING_SALT_LENGTH salt);
    })

keeps-secret : (file : SecretFile) (bytes : List ℕ)
    → Keeps (λ secret. HasLabel file → IsLabelled secret) (secret_of file bytes)
keeps-secret file bytes =
    next (λ _. Unit {0}) _ _ _
    (named _ of_secret (password_of bytes) (λ password read. tt) (λ fault. grind arith))
    (λ password _ label. label)

keeps-secrets : (files : List SecretFile) (contents : List (List ℕ))
    → Keeps (λ secrets. AllByRecursion HasLabel files → All IsLabelled secrets)
    (secrets_of (zip files contents))
unfolding secrets_of
keeps-secrets [] contents = λ _. All-nil IsLabelled
keeps-secrets (file ∷ files) [] = λ _. All-nil IsLabelled
keeps-secrets (file ∷ files) (bytes ∷ contents) =
    next (λ secret. HasLabel file → IsLabelled secret) _ _ _ (keeps-secret file bytes)
    (λ secret first.
    next (λ secrets. AllByRecursion HasLabel files → All IsLabelled secrets) _ _ _
    (keeps-secrets files contents) (λ secrets others labels.
    All-cons IsLabelled secret secrets (first labels.0) (others labels.1)))

keeps-new : (file : Option SecretFile) (bytes : List ℕ)
    → Keeps (λ secret. IfSome file HasLabel → IsLabelled secret) (new_secret_of file bytes)
keeps-new None bytes = refl
keeps-new (Some file) bytes = keeps-secret file bytes

label-parts : (files : List SecretFile) (new : Option SecretFile)
    → AllByRecursion HasLabel (files ++ option_to_list new)
    → AllByRecursion HasLabel files × IfSome new HasLabel
label-parts [] None labels = (tt, tt)
label-parts [] (Some file) labels = (tt, labels.0)
label-parts (file ∷ files) new (label, labels) =
    let parts = label-parts files new labels in ((label, parts.0), parts.1)

module _ (request : Request) (salt : List ℕ) where
  -- a request that was settled, and salts that are bytes
  pub record IsGiven : Type 0 where
    pub known : IsRequest request
    pub text : IfSome request.salt_text IsBytes
    pub bytes : IsBytes salt

  -- a task of this command
  abbrev pub IsTask : CommandName → Task → Type 0
  IsTask command task =
      ((limit : ℕ) → task_limit limit task ≡ input_limit limit command)
      × (IsGiven → IsSound task)

  keeps-encrypt : (secrets : List Secret) (form : Form)
      → (IsGiven → All IsLabelled secrets)
      → Keeps (IsTask command.Encrypt) (encrypt_task request secrets form salt)
  keeps-encrypt secrets form labels =
      next (λ index. index < length secrets) _ (index_of secrets request.choice) _
      (named _ of_choice (chosen_index secrets request.choice)
      (λ index is. IfOk-within secrets request.choice (Ok index) (sym is)) (λ fault. grind arith))
      (λ index within.
      next _ (IsTask command.Encrypt) (salt_of request.salt_text salt) _
      (keeps-salt request.salt_text salt) (λ used is. (
        λ limit. refl,
        λ given. (
          labels given index _ within,
          is given.known.settled.salt_text given.text given.bytes,
        ),
      )))

  keeps-task : (command : CommandName) (list : SecretList) (last : List ℕ)
      → (IsGiven → All IsLabelled list.secrets)
      → Keeps (IsTask command) (command_task command request list last salt)
  keeps-task command.Encrypt list last labels = keeps-encrypt list.secrets Envelope labels
  keeps-task command.EncryptString list last labels =
      keeps-encrypt list.secrets (Block request.name) labels
  keeps-task command.Decrypt list last labels = (λ limit. refl, λ given. tt)
  keeps-task command.View list last labels = (λ limit. refl, λ given. tt)
  keeps-task command.Rekey list last labels =
      next _ (IsTask command.Rekey) (new_secret_of request.new_secret last) _
      (keeps-new request.new_secret last) (λ secret label.
      next _ (IsTask command.Rekey) (salt_of request.salt_text salt) _
      (keeps-salt request.salt_text salt) (λ used is. (
        λ limit. refl,
        λ given. (
          label (label-parts request.secrets request.new_secret given.known.labels).1,
          is given.known.settled.salt_text given.text given.bytes,
        ),
      )))

  -- steps 9 to 11
  pub keeps-task_of : (contents : List (List ℕ))
      → Keeps (IsTask request.command) (task_of request contents salt)
  unfolding task_of
  keeps-task_of contents =
      next (λ list. IsGiven → All IsLabelled list.secrets) _
      (secret_list_of request contents) _
      (next _ _ (secrets_of (zip request.secrets contents)) _
      (keeps-secrets request.secrets contents)
      (λ secrets labels given.
      labels (label-parts request.secrets request.new_secret given.known.labels).0)) (λ list labels.
      keeps-task request.command list (slice_index_or contents (length request.secrets) []) labels)
