-- The task and the answer of the program over files, and files of which one stands at each path.
use Rattle.std.proofs.Common.{◌≡◌, ◌≢◌, ℕ, List, [], ◌∷◌, ◌++◌, Option, Some, None, Result, Ok}
use Rattle.std.proofs.Common.{Err, refl, ap, map, Bool, IsTrue}
use Rattle.std.specs.Option.{option_map}
use Rattle.vault_text.specs.declared.limits.TheConstants.{PLAINTEXT_LIMIT}
use Rattle.vault_files.specs.File.{FileState, Found, prefix}
use Rattle.vault_files.specs.File.FileState.{Missing, Whole, Broken}
use Rattle.vault_files.specs.declared.fault.FileFault.TheVariants.{CannotOpen}
use Rattle.vault_fault.specs.declared.fault.Fault.{Fault}
use Rattle.vault_core.specs.Input.{IsReadToEndOrPastLimit}
use Rattle.vault_request.specs.Request.{Request}
use Rattle.vault_cli.specs.runs.FileContents.{AtPath, contents_of, secret_paths}
use Rattle.vault_cli.specs.Program.{Files, can_open_input, file_salt, task_over}
use Rattle.vault_cli.specs.InMemory.{files_at}
use Rattle.vault_cli.specs.Program.{program, stdin_needed}
use Rattle.vault_cli.specs.runs.Task.{task_of, Task}
use Rattle.vault_cli.specs.Drive.{AllFound}
use Rattle.vault_cli.specs.runs.Answer.{input_limit, input_needed_by, output_of, ready_by}
use Rattle.vault_cli.specs.runs.Answer.{task_limit}
use Rattle.vault_cli.proofs.AnswerLemmas.{steps-ok}
use Rattle.vault_cli.proofs.TaskSoundLemmas.{keeps-task_of}
use Rattle.vault_cli.proofs.TaskLemmas.{prepared-prefix}

-- ---- the task of a request over files

-- a file that was opened can be opened
pub opening : (file : FileState) (n : ℕ) → prefix n file ≢ Err CannotOpen
    → can_open_input (Some file) ≡ Ok tt
opening Missing n opened = absurd (opened refl)
opening (Whole bytes) n opened = refl
opening (Broken bytes) n opened = refl

-- what steps 9 to 11 prepare, where the files can be read
pub task-found : (request : Request) (files : Files) (contents : List (List ℕ)) (salt : List ℕ)
    → contents_of files.secrets ≡ Ok contents → file_salt files.salt ≡ Ok salt
    → can_open_input files.input ≡ Ok tt → task_over request files ≡ task_of request contents salt
unfolding task_over
task-found request files contents salt read salted opened = rw (read, salted, opened)

-- ---- the answer to the prefix of standard input that is asked for is the answer to all of it

-- the task that is found over files takes as much as its command
limit-over : (limit : ℕ) (request : Request) (files : Files) (task : Task)
    → task_over request files ≡ Ok task
    → task_limit limit task ≡ input_limit limit request.command
unfolding task_over
limit-over limit request files task e =
    let (contents, read, left) = steps-ok (contents_of files.secrets) _ task e in
    let (salt, salted, last) = steps-ok (file_salt files.salt) _ task left in
    let (opened, opens, found) = steps-ok (can_open_input files.input) _ task last in
    (rw found at (keeps-task_of request salt contents)).0 limit

-- where no input is asked for, the answer is the same for each; where some is, it depends on no
-- byte after the first past the limit
abbrev pub IsOfPrefix : Option ℕ → (List ℕ → Result (List ℕ) Fault) → Type 0
IsOfPrefix None answers = (input : List ℕ) → answers [] ≡ answers input
IsOfPrefix (Some limit) answers =
    (ended : Bool) (text prefix left : List ℕ) → text ≡ prefix ++ left → (IsTrue ended → left ≡ [])
    → IsReadToEndOrPastLimit limit ended prefix → answers prefix ≡ answers text

task-prefix : (limit amount : ℕ) (task_or_fault : Result Task Fault) (string : Option (List ℕ))
    → ((task : Task) → task_or_fault ≡ Ok task → task_limit limit task ≡ amount)
    → IsOfPrefix (input_needed_by task_or_fault string amount)
    (λ input. output_of (ready_by limit task_or_fault string (Ok input)))
task-prefix limit amount (Err fault) string has = λ input. refl
task-prefix limit amount (Ok task) (Some string) has = λ input. refl
task-prefix limit amount (Ok task) None has = λ ended text prefix left parts last whole.
    ap output_of
    (prepared-prefix limit task ended text prefix left parts last (rw (has task refl) whole))

file-prefix : (request : Request) (secrets : List FileState) (salt input : Option FileState)
    → IsOfPrefix
    (stdin_needed request (record { secrets = secrets; salt = salt; input = input }))
    (program request (record { secrets = secrets; salt = salt; input = input }))
file-prefix request secrets salt (Some file) = λ input. refl
file-prefix request secrets salt None =
    task-prefix PLAINTEXT_LIMIT (input_limit PLAINTEXT_LIMIT request.command) _ request.string
    (limit-over PLAINTEXT_LIMIT request (record { secrets = secrets; salt = salt; input = None }))

pub answer-prefix : (request : Request) (found : Files)
    → IsOfPrefix (stdin_needed request found) (program request found)
answer-prefix request found = file-prefix request found.secrets found.salt found.input

-- ---- where one file stands at each path

-- files that are each the one at its path
all-in : (at : List ℕ → FileState) (paths : List (List ℕ)) (files : List FileState)
    → Found (λ path file. file ≡ at path) paths files → files ≡ map at paths
all-in at [] [] seen = refl
all-in at [] (file ∷ files) seen = absurd seen
all-in at (path ∷ paths) [] seen = absurd seen
all-in at (path ∷ paths) (file ∷ files) seen =
    rw (seen.0, all-in at paths files seen.1) refl

one-in : (at : List ℕ → FileState) (path : Option (List ℕ)) (file : Option FileState)
    → AtPath (λ path file. file ≡ at path) path file → file ≡ option_map at path
one-in at None None seen = refl
one-in at None (Some file) seen = absurd seen
one-in at (Some path) None seen = absurd seen
one-in at (Some path) (Some file) seen = ap Some seen

-- where one file is at each path, the files that are found are those
pub at-paths : (at : List ℕ → FileState) (request : Request) (found : Files)
    → AllFound (λ path file. file ≡ at path) request found → found ≡ files_at at request
at-paths at request found seen =
    rw (
      ← all-in at (secret_paths request) found.secrets seen.0,
      ← one-in at request.salt_path found.salt seen.1,
      ← one-in at request.input found.input seen.2,
    ) refl
