-- What the program answers, as a function of a request, the files that it finds, and its standard
-- input.
use Rattle.std.specs.Prelude.{ℕ, ◌+◌, List, [], Option, Some, None, Result, Ok, Err}
use Rattle.vault_files.specs.File.{FileState}
use Rattle.vault_files.specs.File.FileState.{Missing, Whole, Broken}
use Rattle.vault_text.specs.Steps.{◌>>=◌}
use Rattle.vault_text.specs.declared.limits.TheConstants.{PLAINTEXT_LIMIT}
use Rattle.vault_core.specs.Ready.{Ready}
use Rattle.vault_fault.specs.declared.fault.Fault.{Fault}
use Rattle.vault_fault.specs.declared.fault.Fault.TheVariants.{CannotOpen}
use Rattle.vault_fault.specs.declared.fault.Role.TheVariants.{Input, Salt}
use Rattle.vault_cli.specs.runs.FileContents.{contents_of, file_prefix}
use Rattle.vault_cli.specs.runs.Answer.{input_limit, input_needed_by, output_of, ready_by}
use Rattle.vault_request.specs.Request.{Request}
use Rattle.vault_cli.specs.runs.Task.{Task, task_of}
use Rattle.vault_cli.specs.declared.limits.TheConstants.{SEALING_SALT_LENGTH}

-- the files that a request names, as they are found: its password files, in order, its salt file
-- and its input file
pub record Files : Type 0 where
  pub secrets : List FileState
  pub salt : Option FileState
  pub input : Option FileState

-- the salt: the first bytes of the salt file
abbrev pub file_salt : Option FileState → Result (List ℕ) Fault
file_salt None = Ok []
file_salt (Some file) = file_prefix Salt SEALING_SALT_LENGTH file

-- whether the input file can be opened
abbrev pub can_open_input : Option FileState → Result (Unit {0}) Fault
can_open_input None = Ok tt
can_open_input (Some Missing) = Err (CannotOpen Input)
can_open_input (Some (Whole bytes)) = Ok tt
can_open_input (Some (Broken bytes)) = Ok tt

-- the task of a request, or the first fault: of its password files, of its salt file, of an input
-- file that cannot be opened, or of its passwords, of the choice of a secret, or of the salt
unfoldable pub task_over : Request → Files → Result Task Fault
task_over request files = do
  contents ← contents_of files.secrets
  salt ← file_salt files.salt
  opened ← can_open_input files.input
  task_of request contents salt

-- at most this many bytes of the input file, or else standard input
abbrev pub input_from : ℕ → Option FileState → List ℕ → Result (List ℕ) Fault
input_from limit None stdin = Ok stdin
input_from limit (Some file) stdin = file_prefix Input limit file

-- the output that is ready to be written, or the first fault: of the task, of its input, which
-- counts up to one byte past the limit, or of carrying out the task
abbrev pub ready_of : Request → Files → List ℕ → Result Ready Fault
ready_of request files stdin =
    ready_by PLAINTEXT_LIMIT (task_over request files) request.string
    (input_from (input_limit PLAINTEXT_LIMIT request.command + 1) files.input stdin)

-- the answer to a request: the bytes to write, or a fault
abbrev pub program : Request → Files → List ℕ → Result (List ℕ) Fault
program request files stdin = output_of (ready_of request files stdin)

-- the limit on reading standard input, if there is no FILE
abbrev pub unless_file : Option FileState → Option ℕ → Option ℕ
unless_file None limit = limit
unless_file (Some file) limit = None

-- the limit on reading standard input, if it is read: up to one byte more is requested
abbrev pub stdin_needed : Request → Files → Option ℕ
stdin_needed request files =
    let limit = input_limit PLAINTEXT_LIMIT request.command in
    unless_file files.input (input_needed_by (task_over request files) request.string limit)
