-- Laws of the program: from the arguments of one run to another's, from file to file.
use Rattle.std.specs.Prelude.{◌≡◌, ℕ, List, [], ◌∷◌, Option, Some, None, IfSome, Result, Ok}
use Rattle.clap.specs.Words.{Text}
use Rattle.vault_files.specs.File.{FileState}
use Rattle.vault_files.specs.File.FileState.{Whole}
use Rattle.vault_core.specs.Form.{Envelope}
use Rattle.vault_core.specs.Laws.{IsBytes, IsTriedFirst}
use Rattle.vault_core.specs.Secrets.{Secret, SecretList, secret_at}
use Rattle.vault_fault.specs.declared.fault.Fault.{Fault}
use Rattle.vault_fault.specs.declared.label_rule.LabelRule.{LabelRule}
use Rattle.vault_cli.specs.InMemory.{files_at, stands_after}
use Rattle.vault_cli.specs.runs.FileContents.{contents_of}
use Rattle.vault_cli.specs.Laws.{UnsealsWith}
use Rattle.vault_cli.specs.runs.Answer.{run_answer}
use Rattle.vault_request.specs.Settled.{requested_by}
use Rattle.vault_cli.specs.Program.{Files, program, file_salt}
use Rattle.vault_request.specs.Request.{Request}
use Rattle.vault_cli.specs.runs.Task as task
use Rattle.vault_cli.specs.runs.Task.{task_of}
use Rattle.vault_request.specs.declared.command_name.CommandName.TheVariants.{Encrypt, Rekey}

-- the input is a file that can be read to its end, or else standard input
abbrev pub IsInput : Option FileState → List ℕ → List ℕ → Type 0
IsInput None stdin input = stdin ≡ input
IsInput (Some file) stdin input = file ≡ Whole input

-- a run whose files can be read: its arguments, the files found at their paths, standard input, and
-- what follows from these
pub record Run : Type 0 where
  pub words : List Text
  pub files : Files
  pub stdin : List ℕ
  pub request : Request
  pub contents : List (List ℕ)
  pub salt : List ℕ
  pub input : List ℕ
  pub requested : requested_by words ≡ Some (Ok request)
  pub secrets : contents_of files.secrets ≡ Ok contents
  pub salted : file_salt files.salt ≡ Ok salt
  pub is_input : IsInput files.input stdin input

-- the program's answer to a run
abbrev pub answer : Run → Result (List ℕ) Fault
answer run = program run.request run.files run.stdin

-- the program's answer to a run is the answer to the run's request
abbrev pub ProgramIsRun : Type 0
ProgramIsRun = (run : Run) → answer run ≡ run_answer run.request run.contents run.salt run.input

-- what one request wrote to a path is read by another whose FILE is that path
abbrev pub WrittenIsRead : Type 0
WrittenIsRead =
    (before : List ℕ → FileState) (writing reading : Request) (bytes path : List ℕ)
    → writing.output ≡ Some path → reading.input ≡ Some path
    → (files_at (stands_after before writing.output bytes) reading).input ≡ Some (Whole bytes)

-- `decrypt` and `view` give back what `encrypt` encrypted with a secret, if the first secret that
-- they try has its password
abbrev pub ProgramEncryptsThenDecrypts : Type 0
ProgramEncryptsThenDecrypts =
    (encrypting decrypting : Run)
    (list : List Secret) (index : ℕ) (used : List ℕ) (secrets : SecretList)
    → encrypting.request.command ≡ Encrypt
    → IfSome encrypting.request.salt_text IsBytes
    → IsBytes encrypting.salt → IsBytes encrypting.input
    → task_of encrypting.request encrypting.contents encrypting.salt
    ≡ Ok (task.Encrypt list index Envelope used)
    → answer encrypting ≡ Ok decrypting.input
    → UnsealsWith decrypting.request decrypting.contents decrypting.salt secrets
    → IsTriedFirst secrets (secret_at index list)
    → answer decrypting ≡ Ok encrypting.input

-- with only the new secret, under either rule, `decrypt` and `view` decrypt what `rekey` wrote to
-- what they gave before with the old secrets under the rule of `rekey`
abbrev pub ProgramKeepsThePlaintext : Type 0
ProgramKeepsThePlaintext =
    (rekeying before after : Run)
    (secrets : SecretList) (new : Secret) (used : List ℕ) (rule : LabelRule)
    → rekeying.request.command ≡ Rekey
    → IfSome rekeying.request.salt_text IsBytes → IsBytes rekeying.salt
    → task_of rekeying.request rekeying.contents rekeying.salt ≡ Ok (task.Rekey secrets new used)
    → before.input ≡ rekeying.input → answer rekeying ≡ Ok after.input
    → UnsealsWith before.request before.contents before.salt secrets
    → UnsealsWith after.request after.contents after.salt
    (record { secrets = new ∷ []; rule = rule })
    → answer after ≡ answer before
