-- The laws of the answers.
use Rattle.std.proofs.Common.{◌≡◌, ℕ, ◌*◌, ◌≤◌, List, [], ◌∷◌, length, Result}
use Rattle.std.proofs.Common.{Ok, Err, inl, inr, refl, sym, ap, ◌∙◌, arith}
use Rattle.std.specs.Prelude.{IfErr, Option, unwrap_or}
use Rattle.vault_core.specs.Decryption.{decryption}
use Rattle.vault_core.specs.Form.{Envelope}
use Rattle.vault_core.specs.Laws.{EncryptedDecrypts, RekeyedDecrypts, ShortInputs}
use Rattle.vault_core.specs.Rekeying.{rekeying}
use Rattle.vault_core.specs.Secrets.{Secret, SecretList}
use Rattle.vault_fault.specs.declared.fault.Fault.{Fault}
use Rattle.vault_cli.specs.Laws.{EncryptThenDecrypt, UnsealsWith, AnswersAreDecided}
use Rattle.vault_cli.specs.Laws.{RekeyKeepsThePlaintext, ShortTexts}
use Rattle.vault_cli.specs.runs.Answer.{input_limit, output_of, run_answer_within, prepared}
use Rattle.vault_cli.specs.runs.Answer.{ready_by, room_limit, task_limit, text_of_request}
use Rattle.vault_request.specs.Request.{Request}
use Rattle.vault_cli.specs.runs.Task.{Task, Encrypt, Decrypt, Rekey, task_of}
use Rattle.vault_fault.specs.declared.label_rule.LabelRule.TheVariants.{Hint}
use Rattle.vault_request.specs.declared.command_name.CommandName.{CommandName}
use Rattle.vault_cli.proofs.AnswerLemmas.{ready-text, run_answer-output, run_answer-prepared}
use Rattle.vault_cli.proofs.TaskSoundLemmas.{keeps-task_of}
use Rattle.vault_cli.specs.declared.runs.status.Status.TheVariants.{Refused}
use Rattle.vault_core.specs.Ready.{Ready}
use Rattle.vault_cli.specs.runs.Status.{status_of}
use Rattle.vault_cli.proofs.StatusLemmas.{IsRefusedAlone, alone-prepared, next}

-- what a request that opens answers
opened : (limit : ℕ) (request : Request) (contents : List (List ℕ)) (salt input : List ℕ)
    (secrets : SecretList) → UnsealsWith request contents salt secrets
    → run_answer_within limit request contents salt input
    ≡ output_of (decryption limit secrets input)
opened limit request contents salt input secrets opens =
    run_answer-prepared limit request contents salt input opens.settled
    (λ string. elim opens.command [ inl decrypt ↦ cc | inr view ↦ cc ]) (Decrypt secrets)
    opens.found

pub encrypt_then_decrypt : EncryptedDecrypts → EncryptThenDecrypt
encrypt_then_decrypt law limit encrypting decrypting contents other_contents salt other_salt input
    envelope list index used secrets known encrypts text_bytes salt_bytes input_bytes sealed written
    opens first =
    let (label, used_salt) = (rw sealed at (keeps-task_of encrypting salt contents)).1
    (record { known = known; text = text_bytes; bytes = salt_bytes }) in
    let (ready, is, same) = run_answer-output limit encrypting contents salt input known
    (λ string. cc) (Encrypt list index Envelope used) sealed envelope written in
    let plain = law limit list index used input ready label used_salt.bytes used_salt.limit
    input_bytes is secrets first in
    opened limit decrypting other_contents other_salt envelope secrets opens
    ∙ ap output_of (rw same at plain)

pub rekey_keeps_the_plaintext : RekeyedDecrypts → RekeyKeepsThePlaintext
rekey_keeps_the_plaintext law limit rekeying before after contents old_contents new_contents salt
    old_salt new_salt input envelope secrets new used rule known rekeys text_bytes salt_bytes found
    written old opens =
    let (label, used_salt) = (rw found at (keeps-task_of rekeying salt contents)).1
    (record { known = known; text = text_bytes; bytes = salt_bytes }) in
    let (ready, is, same) = run_answer-output limit rekeying contents salt input known
    (λ string. cc) (Rekey secrets new used) found envelope written in
    let (plain, was, opens_to) = law limit secrets new used input ready label used_salt.bytes
    used_salt.limit is in
    opened limit after new_contents new_salt envelope (record { secrets = new ∷ []; rule = rule })
    opens
    ∙ ap output_of (rw same at (opens_to rule))
    ∙ sym (opened limit before old_contents old_salt input secrets old ∙ ap output_of was)

-- any secret and any list, where a law speaks of more than is asked
no_secret : Secret
no_secret = record { label = []; password = [] }

no_secrets : SecretList
no_secrets = record { secrets = []; rule = Hint }

-- a text that has room is at most four times the limit
envelope-room : (limit : ℕ) (text : List ℕ) (name : CommandName)
    → length text ≤ room_limit limit name → length text ≤ 4 * limit
envelope-room limit text name short = grind arith

-- what is encrypted is at most the limit
sealed-room : (limit : ℕ) (text : List ℕ) (name : CommandName)
    → limit ≡ input_limit limit name → length text ≤ room_limit limit name → length text ≤ limit
sealed-room limit text name same short = grind arith

-- a text that has room under both limits, where a task takes as much as its command
module _ (law : ShortInputs) (smaller larger : ℕ) (text : List ℕ) (more : smaller ≤ larger) where
  short-prepared : (task : Task) (name : CommandName)
      → task_limit smaller task ≡ input_limit smaller name
      → length text ≤ room_limit smaller name
      → prepared larger task text ≡ prepared smaller task text
  short-prepared (Encrypt secrets index form salt) name same short =
      (law smaller larger text more secrets index form no_secrets no_secret salt).0
      (sealed-room smaller text name same short)
  short-prepared (Decrypt secrets) name same short =
      ((law smaller larger text more [] 0 Envelope secrets no_secret []).1
      (envelope-room smaller text name short)).0
  short-prepared (Rekey secrets new salt) name same short =
      ((law smaller larger text more [] 0 Envelope secrets new salt).1
      (envelope-room smaller text name short)).1

short-tasks : (larger smaller : ℕ) (string : Option (List ℕ)) (input : List ℕ)
    (found : Result Task Fault)
    → ((task : Task) → found ≡ Ok task
    → prepared larger task (unwrap_or string input)
    ≡ prepared smaller task (unwrap_or string input))
    → ready_by larger found string (Ok input) ≡ ready_by smaller found string (Ok input)
short-tasks larger smaller string input (Ok task) h =
    ready-text larger task string input ∙ h task refl ∙ sym (ready-text smaller task string input)
short-tasks larger smaller string input (Err fault) h = refl

pub short_texts : ShortInputs → ShortTexts
unfolding run_answer_within
short_texts law smaller larger request contents salt input short more =
    ap output_of
    (short-tasks larger smaller request.string input (task_of request contents salt) (λ task found.
    short-prepared law smaller larger (text_of_request request input) more task request.command
    ((rw found at (keeps-task_of request salt contents)).0 smaller) short))

-- what is refused is refused with status 1
decided : (ready : Result Ready Fault) → IsRefusedAlone ready
    → IfErr (output_of ready) (λ fault. status_of fault ≡ Refused)
decided (Ok ready) alone = tt
decided (Err fault) alone = alone

pub answers_are_decided : AnswersAreDecided
unfolding run_answer_within
answers_are_decided limit request contents salt input =
    decided (ready_by limit (task_of request contents salt) request.string (Ok input))
    (next _ (λ _. Unit {0}) (task_of request contents salt) _ (keeps-task_of request salt contents)
    (λ task _. rw (ready-text limit task request.string input) (alone-prepared limit task _)))
