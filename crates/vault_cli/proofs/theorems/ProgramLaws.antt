-- The laws of the program, from those of the answers.
use Rattle.std.proofs.Common.{◌≡◌, ℕ, ◌+◌, List, length, length-take, take, drop, false, Option}
use Rattle.std.proofs.Common.{Some, None, Result, Ok, Err, inl, inr, arith, refl, sym, ap, ◌∙◌}
use Rattle.std.specs.Option.{option_map}
use Rattle.std.proofs.lemmas.Bool.{cases_lt}
use Rattle.std.proofs.lemmas.List.{take_all, take-append-drop}
use Rattle.clap.specs.Walk.{Row}
use Rattle.clap.specs.Words.{subcommand_of}
use Rattle.vault_text.specs.declared.limits.TheConstants.{PLAINTEXT_LIMIT}
use Rattle.vault_files.specs.File.{FileState}
use Rattle.vault_files.specs.File.FileState.{Whole}
use Rattle.vault_fault.specs.declared.fault.Fault.{Fault}
use Rattle.vault_core.proofs.theorems.SealedUnseals.{bytes_eq-same}
use Rattle.vault_request.specs.CommandLine.{vault_app}
use Rattle.vault_cli.specs.InMemory.{stands_after}
use Rattle.vault_cli.specs.Laws as run_answers
use Rattle.vault_request.specs.Laws.{IsRequest, SettledRequests}
use Rattle.vault_cli.specs.runs.Answer.{input_limit, output_of, prepared, ready_by}
use Rattle.vault_cli.specs.runs.Answer.{run_answer, run_answer_within, task_limit}
use Rattle.vault_cli.specs.Program.{input_from, can_open_input}
use Rattle.vault_cli.specs.ProgramLaws.{ProgramEncryptsThenDecrypts, IsInput, ProgramIsRun}
use Rattle.vault_cli.specs.ProgramLaws.{ProgramKeepsThePlaintext, Run, WrittenIsRead, answer}
use Rattle.vault_request.specs.Request.{Request}
use Rattle.vault_request.specs.Settled.{command_in, settled}
use Rattle.vault_cli.specs.runs.Task.{Task, task_of}
use Rattle.vault_request.specs.declared.command_name.CommandName.{CommandName}
use Rattle.vault_cli.proofs.TaskSoundLemmas.{keeps-task_of}
use Rattle.vault_cli.proofs.ProgramLemmas.{task-found}
use Rattle.vault_cli.proofs.TaskLemmas.{prepared-prefix}

-- ---- the prefix of a file that is read is enough

prefix-enough : (limit amount : ℕ) (task_or_fault : Result Task Fault) (string : Option (List ℕ))
    (text : List ℕ) → ((task : Task) → task_or_fault ≡ Ok task → task_limit limit task ≡ amount)
    → ready_by limit task_or_fault string (Ok (take (amount + 1) text))
    ≡ ready_by limit task_or_fault string (Ok text)
prefix-enough limit amount (Err fault) string text takes = refl
prefix-enough limit amount (Ok task) (Some string) text takes = refl
prefix-enough limit amount (Ok task) None text takes = elim (cases_lt amount (length text)) [
  | inl long ↦
      prepared-prefix limit task false text (take (amount + 1) text) (drop (amount + 1) text)
      (sym (take-append-drop (amount + 1) text)) (λ ended. absurd cc)
      (inr (omega (arith, long, length-take (amount + 1) text, takes task refl)))
  | inr short ↦ ap (prepared limit task) (take_all (amount + 1) text (omega (arith, short)))
]

can_open-input : (file : Option FileState) (stdin input : List ℕ) → IsInput file stdin input
    → can_open_input file ≡ Ok tt
can_open-input None stdin input is_input = refl
can_open-input (Some file) stdin input is_input = rw is_input refl

ready_by-input : (limit amount : ℕ) (task_or_fault : Result Task Fault) (string : Option (List ℕ))
    (file : Option FileState) (stdin input : List ℕ)
    → ((task : Task) → task_or_fault ≡ Ok task → task_limit limit task ≡ amount)
    → IsInput file stdin input
    → ready_by limit task_or_fault string (input_from (amount + 1) file stdin)
    ≡ ready_by limit task_or_fault string (Ok input)
ready_by-input limit amount task_or_fault string None stdin input takes is_input = rw is_input
ready_by-input limit amount task_or_fault string (Some file) stdin input takes is_input =
    rw is_input (prefix-enough limit amount task_or_fault string input takes)

pub program_is_run : ProgramIsRun
unfolding run_answer_within
program_is_run run =
    let found = task-found run.request run.files run.contents run.salt run.secrets run.salted
    (can_open-input run.files.input run.stdin run.input run.is_input) in
    rw found
    (ap output_of
    (ready_by-input PLAINTEXT_LIMIT (input_limit PLAINTEXT_LIMIT run.request.command)
    (task_of run.request run.contents run.salt) run.request.string run.files.input run.stdin
    run.input
    (λ task is.
    (rw is at (keeps-task_of run.request run.salt run.contents)).0 PLAINTEXT_LIMIT) run.is_input))

-- ---- arguments make requests of which the laws speak

settled-request : SettledRequests → (found : Option (CommandName × List Row)) (request : Request)
    → option_map (λ f. settled f.0 f.1) found ≡ Some (Ok request) → IsRequest request
settled-request law None request e = absurd cc
settled-request law (Some (command, rows)) request e = law command rows request (cc)

module _ (settles : SettledRequests) where
  is-request : (run : Run) → IsRequest run.request
  is-request run = settled-request settles (command_in (subcommand_of vault_app run.words))
      run.request run.requested

  output-of : (run : Run) (bytes : List ℕ) → answer run ≡ Ok bytes
      → run_answer run.request run.contents run.salt run.input ≡ Ok bytes
  output-of run bytes written = sym (program_is_run run) ∙ written

  pub encrypt_then_decrypt : run_answers.EncryptThenDecrypt → ProgramEncryptsThenDecrypts
  encrypt_then_decrypt law encrypting decrypting list index used secrets encrypts text_bytes
      salt_bytes
      input_bytes sealed written unseals first =
      program_is_run decrypting
      ∙ law PLAINTEXT_LIMIT encrypting.request decrypting.request encrypting.contents
      decrypting.contents encrypting.salt decrypting.salt encrypting.input decrypting.input
      list index used secrets (is-request encrypting) encrypts text_bytes salt_bytes input_bytes
      sealed (output-of encrypting decrypting.input written) unseals first

  pub rekey_keeps_the_plaintext : run_answers.RekeyKeepsThePlaintext → ProgramKeepsThePlaintext
  rekey_keeps_the_plaintext law rekeying before after secrets new used rule rekeys text_bytes
      salt_bytes found same written old unseals =
      program_is_run after
      ∙ law PLAINTEXT_LIMIT rekeying.request before.request after.request rekeying.contents
      before.contents after.contents rekeying.salt before.salt after.salt
      rekeying.input after.input secrets new used rule (is-request rekeying) rekeys text_bytes
      salt_bytes found (output-of rekeying after.input written) old unseals
      ∙ sym
      (program_is_run before ∙ ap (run_answer before.request before.contents before.salt) same)

-- ---- what was written stands at its path

pub written_is_read : WrittenIsRead
written_is_read before writing reading bytes path written reads =
    let at = stands_after before writing.output bytes in
    let there : at path ≡ Whole bytes = rw (written, bytes_eq-same path) in
    rw (reads, there)
