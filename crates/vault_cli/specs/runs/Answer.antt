-- The answer to a request, as a function of the request, the password files, the salt and the
-- input: steps 9 to 14 of docs/verification-reference.md. The first step that refuses decides. The
-- task has steps 9 to 11: the passwords, the index of the secret to encrypt with, and the salt.
-- Then the text is read (12), its length is checked (13), and the command is carried out (14).
use Rattle.std.specs.Prelude.{ℕ, ◌*◌, if◌then◌else◌, List, Option, Some, None, unwrap_or}
use Rattle.std.specs.Prelude.{Result, Ok, Err}
use Rattle.vault_text.specs.Limits.{envelope_limit}
use Rattle.vault_text.specs.declared.limits.TheConstants.{PLAINTEXT_LIMIT}
use Rattle.vault_core.specs.Decryption.{decryption}
use Rattle.vault_core.specs.Encryption.{encryption}
use Rattle.vault_text.specs.Steps.{◌>>=◌}
use Rattle.vault_core.specs.Ready.{Ready}
use Rattle.vault_core.specs.Rekeying.{rekeying}
use Rattle.vault_fault.specs.declared.fault.Fault.{Fault}
use Rattle.vault_request.specs.CommandName.{encrypts}
use Rattle.vault_request.specs.Request.{Request}
use Rattle.vault_cli.specs.runs.Task as task
use Rattle.vault_cli.specs.runs.Task.{Task, task_of}
use Rattle.vault_request.specs.declared.command_name.CommandName.{CommandName}
use Rattle.vault_request.specs.declared.command_name.CommandName.TheVariants.{Encrypt, Decrypt}
use Rattle.vault_request.specs.declared.command_name.CommandName.TheVariants.{Rekey}

-- the bytes to write, or why there are none
abbrev pub output_of : Result Ready Fault → Result (List ℕ) Fault
output_of (Ok ready) = Ok ready.output
output_of (Err fault) = Err fault

-- how much input a command takes, under this limit of the plaintext
abbrev pub input_limit : ℕ → CommandName → ℕ
input_limit limit command = if encrypts command then limit else envelope_limit limit

-- the length of the longest text that fits wherever a plaintext up to the limit does: an envelope
-- spells each byte with four digits
abbrev pub room_limit : ℕ → CommandName → ℕ
room_limit limit command = if encrypts command then limit else 4 * limit

-- how much input a task takes
abbrev pub task_limit : ℕ → Task → ℕ
task_limit limit (task.Encrypt secrets index form salt) = input_limit limit Encrypt
task_limit limit (task.Decrypt secrets) = input_limit limit Decrypt
task_limit limit (task.Rekey secrets new salt) = input_limit limit Rekey

-- the text of a request: its STRING, or the input
abbrev pub text_of_request : Request → List ℕ → List ℕ
text_of_request request input = unwrap_or request.string input

-- the STRING if there is one, or else the input, or why the input cannot be read
abbrev pub text_or : Option (List ℕ) → Result (List ℕ) Fault → Result (List ℕ) Fault
text_or (Some string) input = Ok string
text_or None input = input

-- how much of the input is requested, apart from one byte more: the limit if steps 9 to 11 do not
-- refuse and there is no STRING, or else none
abbrev pub input_needed_by : Result Task Fault → Option (List ℕ) → ℕ → Option ℕ
input_needed_by (Err fault) string limit = None
input_needed_by (Ok task) (Some string) limit = None
input_needed_by (Ok task) None limit = Some limit

-- steps 13 and 14 of each task
abbrev pub prepared : ℕ → Task → List ℕ → Result Ready Fault
prepared limit (task.Encrypt secrets index form salt) text =
    encryption limit secrets index form salt text
prepared limit (task.Decrypt secrets) text = decryption limit secrets text
prepared limit (task.Rekey secrets new salt) text = rekeying limit secrets new salt text

-- steps 9 to 14, under this limit of the plaintext
abbrev pub ready_by : ℕ → Result Task Fault → Option (List ℕ) → Result (List ℕ) Fault
    → Result Ready Fault
ready_by limit task_or_fault string input = do
  -- steps 9 to 11
  task ← task_or_fault
  text ← text_or string input
  -- steps 13 and 14
  prepared limit task text

-- how much of the input a request needs
abbrev pub input_needed : ℕ → Request → List (List ℕ) → List ℕ → Option ℕ
input_needed limit request contents salt =
    input_needed_by (task_of request contents salt) request.string
    (input_limit limit request.command)

-- the answer to a request under this limit of the plaintext
unfoldable pub run_answer_within : ℕ → Request → List (List ℕ) → List ℕ → List ℕ
    → Result (List ℕ) Fault
run_answer_within limit request contents salt input =
    output_of (ready_by limit (task_of request contents salt) request.string (Ok input))

-- the answer to a request under the limit of the program
abbrev pub run_answer : Request → List (List ℕ) → List ℕ → List ℕ
    → Result (List ℕ) Fault
run_answer request contents salt input = run_answer_within PLAINTEXT_LIMIT request contents salt
    input
