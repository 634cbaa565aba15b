-- From what was sent, and from the files that were found, to how the program ends.
use Rattle.std.proofs.Common.{◌≡◌, ℕ, ◌+◌, ◌<◌, ◌≤◌, ◌⊎◌, inl, inr, List, [], true, Option, Some}
use Rattle.std.proofs.Common.{◌≢◌, None, Result, Ok, Err, IsTrue, length, arith, refl, sym, ap, ◌∙◌}
use Rattle.std.proofs.Common.{subst}
use Rattle.std.specs.Prelude.{IfSome, is_some}
use Rattle.std.specs.Result.{result_map_both}
use Rattle.vault_text.specs.Failures.{HasRisen}
use Rattle.vault_text.specs.declared.limits.TheConstants.{PLAINTEXT_LIMIT}
use Rattle.vault_files.specs.File.{Answers, FileState}
use Rattle.vault_files.specs.System.{Opens}
use Rattle.vault_files.specs.declared.fault.FileFault.{FileFault}
use Rattle.vault_files.specs.declared.fault.FileFault.TheVariants.{CannotOpen, CannotRead}
use Rattle.vault_fault.specs.declared.fault.Fault.{Fault}
use Rattle.vault_fault.specs.declared.fault.Fault.TheVariants.{Memory, Read}
use Rattle.vault_fault.specs.declared.fault.Role.TheVariants.{Input}
use Rattle.vault_request.specs.Request.{Request}
use Rattle.vault_request.specs.Settled.{Settles}
use Rattle.vault_cli.specs.Access.{output_access}
use Rattle.vault_cli.specs.Call.{FilesCall, SinkCall, SourceCall, files_from}
use Rattle.vault_cli.specs.Drive.{Ends, to_path}
use Rattle.vault_cli.specs.Drive.Ends.{Declined, Ran, Stopped}
use Rattle.vault_cli.specs.Explained.Explains.{MemoryLacked}
use Rattle.vault_cli.specs.Loaded.{ContentsFound, RefusedBy, SaltFound}
use Rattle.vault_cli.specs.Program.{Files, can_open_input, input_from, unless_file}
use Rattle.vault_cli.specs.runs.Answer.{input_limit, input_needed, input_needed_by, output_of}
use Rattle.vault_cli.specs.runs.Answer.{prepared, ready_by, run_answer, run_answer_within}
use Rattle.vault_cli.specs.runs.FileContents.{AtPath, file_fault, file_prefix, request_paths}
use Rattle.vault_cli.specs.runs.FileContents.{secret_paths}
use Rattle.vault_cli.specs.runs.Reports.{Reports, line_of}
use Rattle.vault_cli.specs.runs.OutputEnd.{OutputEnd}
use Rattle.vault_cli.specs.runs.Run.{InputFails, Reads, RunEnds}
use Rattle.vault_cli.specs.runs.Run.RunEnds.{HasRefused}
use Rattle.vault_cli.specs.runs.Status.{status_of}
use Rattle.vault_cli.specs.runs.Task.{Task, task_of}
use Rattle.vault_cli.specs.declared.runs.status.Status.{Status}
use Rattle.vault_cli.specs.declared.runs.status.Status.TheVariants.{DeviceFailed, OutOfMemory}
use Rattle.vault_cli.specs.declared.runs.status.Status.TheVariants.{ParseFault, Refused, Success}
use Rattle.vault_cli.proofs.RunOutputLemmas.{EndsLike, carries-same, input-or-read, path-alone}
use Rattle.vault_cli.proofs.OpenedPathsLemmas.{opened_paths-found}
use Rattle.vault_cli.proofs.ProgramLemmas.{opening, task-found}

-- no standard input is asked for beside a file
unless_file-none : (file : Option FileState) → unless_file file None ≡ None
unless_file-none None = refl
unless_file-none (Some file) = refl

-- a file may be found at a path, which can be opened and has this property
abbrev FoundWith : (List ℕ → FileState → Type 0) → Option (List ℕ) → (FileState → Type 0) → Type 0
FoundWith finds path P =
    (file : FileState) × AtPath finds path (Some file) × (can_open_input (Some file) ≡ Ok tt)
    × P file

-- what a reader of a file gave
module _ {R : Type 0} (finds : List ℕ → FileState → Type 0) (opened : List ℕ → R → Type 0)
    (reader : SourceCall R) where
  abbrev pub PrefixLaw : Type 0
  PrefixLaw =
      (path : List ℕ) (r t : R) (xs : List ℕ) (n : ℕ) → opened path r → reader.gives r xs t
      → length xs ≤ n
      → IsTrue (reader.ended t) ⊎ (length xs ≡ n) → reader.failures t ≡ reader.failures r
      → Answers (finds path) n (Ok xs)

  abbrev pub BreakLaw : Type 0
  BreakLaw =
      (path : List ℕ) (r t : R) (xs : List ℕ) (n : ℕ) → opened path r → reader.gives r xs t
      → length xs < n
      → HasRisen (reader.failures r) (reader.failures t) → Answers (finds path) n (Err CannotRead)

  -- what the reader answered is what a file at its path gives
  input-found : (n : ℕ) (answer : Result (List ℕ) FileFault) → answer ≢ Err CannotOpen
      → ((path : List ℕ) → opened path reader.old → Answers (finds path) n answer)
      → (path : Option (List ℕ)) → AtPath opened path (Some reader.old)
      → FoundWith finds path
      (λ file. file_prefix Input n file
      ≡ result_map_both (λ bytes. bytes) (file_fault Input) answer)
  input-found n answer opens law None at = absurd at
  input-found n answer opens law (Some path) at =
      let a = law path at in (
        a.file,
        a.found,
        opening a.file n (λ missing. opens (sym a.same ∙ missing)),
        ap (result_map_both (λ bytes. bytes) (file_fault Input)) a.same,
      )

unopened : {R : Type 0} (finds : List ℕ → FileState → Type 0) (opened : List ℕ → R → Type 0)
    (path : Option (List ℕ)) → AtPath opened path None → AtPath finds path None
unopened finds opened None at = tt
unopened finds opened (Some path) at = absurd at

-- a fault that is reported so
pub memory-alone : (fault : Fault) → status_of fault ≡ OutOfMemory → fault ≡ Memory
memory-alone Memory is = refl
memory-alone fault is = absurd cc

memory-or-not : (status : Status) → (status ≡ OutOfMemory) ⊎ (status ≢ OutOfMemory)
memory-or-not OutOfMemory = inl refl
memory-or-not Success = inr (λ is. cc)
memory-or-not Refused = inr (λ is. cc)
memory-or-not ParseFault = inr (λ is. cc)
memory-or-not DeviceFailed = inr (λ is. cc)

module _ {D R W S K E : Type 0} (files : FilesCall D R W) (src : SourceCall S) (out : SinkCall K)
    (err : SinkCall E) (result : Status) where
  abbrev RequestDrives : Option (Result Request Fault) → Type 0
  RequestDrives requested = Ends files src out err result [] requested

  -- ---- a run of a request

  module _ (request : Request) (contents : List (List ℕ)) (salt : List ℕ)
      (read : ContentsFound (files.finds files.old) (secret_paths request) (Ok contents))
      (salted : SaltFound (files.finds files.old) request.salt_path (Ok salt))
      (opened : D) (went : Opens files.executes files.old (request_paths request) opened) where
    abbrev SentTo : OutputEnd
    SentTo =
        to_path (files_from opened files) out request.output (output_access request.command)

    abbrev SentFrom : {T : Type 0} → SourceCall T → Type 0
    SentFrom from =
        RunEnds from SentTo err result (input_needed PLAINTEXT_LIMIT request contents salt)
        (run_answer request contents salt)

    -- over this STRING, this input file and this task
    abbrev EndsWith : Option (List ℕ) → Option FileState → Result Task Fault → Type 0
    EndsWith string input task = RunEnds src SentTo err result
        (unless_file input
        (input_needed_by task string (input_limit PLAINTEXT_LIMIT request.command)))
        (λ stdin. output_of (ready_by PLAINTEXT_LIMIT task string
        (input_from (input_limit PLAINTEXT_LIMIT request.command + 1) input stdin)))

    -- with an input file that may be found there and can be opened, or none
    drives-with : (input : Option FileState) → AtPath (files.finds files.old) request.input input
        → can_open_input input ≡ Ok tt
        → EndsWith request.string input (task_of request contents salt)
        → RequestDrives (Some (Ok request))
    drives-with input input_found opens ends =
        let (secrets, secrets_found, gave) = read in
        let (salt_file, salt_found, has_salt) = salted in
        let found : Files = record { secrets = secrets; salt = salt_file; input = input } in
        let all =
        opened_paths-found (files.finds files.old) request found contents secrets_found gave in
        let same = task-found request found contents salt gave has_salt opens in
        let ends_so = subst
        (λ (task : Result Task Fault). EndsWith request.string input task) (sym same) ends in
        Ran refl request refl found (secrets_found, salt_found, input_found) opened
        (rw (all, has_salt) went) ends_so

    -- of standard input
    pub drives-stdin : (reads : List ℕ → R → Type 0) → AtPath reads request.input None
        → SentFrom src → RequestDrives (Some (Ok request))
    unfolding run_answer_within
    drives-stdin reads at ends =
        drives-with None (unopened (files.finds files.old) reads request.input at) refl ends

    -- or of a file, for which standard input is left alone
    module _ (kept : src.new ≡ src.old) (reads : List ℕ → R → Type 0) (reader : SourceCall R)
        (at : AtPath reads request.input (Some reader.old))
        (none : reader.gives reader.old [] reader.old)
        (prefix_law : PrefixLaw (files.finds files.old) reads reader)
        (break_law : BreakLaw (files.finds files.old) reads reader) where
      -- it failed, or it was read so far, and standard input was left alone
      kept-ends : (needed : Option ℕ) (answers : List ℕ → Result (List ℕ) Fault)
          → RunEnds reader SentTo err result needed answers
          → InputFails reader SentTo err result needed answers
          ⊎ ((input : List ℕ) × Reads reader needed input
          × EndsLike reader src err result SentTo SentTo (carries-same SentTo) needed answers input)
      kept-ends = input-or-read reader src err result SentTo SentTo (carries-same SentTo)

      -- where it was not asked for, it was opened
      unread-ends : (answer : Result (List ℕ) Fault)
          → RunEnds reader SentTo err result None (λ input. answer)
          → FoundWith (files.finds files.old) request.input
          (λ _. RunEnds src SentTo err result None (λ stdin. answer))
      unread-ends answer ends =
          let (file, seen, opens, same) = input-found (files.finds files.old) reads reader 0 (Ok [])
          (λ missing. cc)
          (λ path at. prefix_law path reader.old reader.old [] 0 at none (omega arith) (inr refl)
          refl) request.input at in
          elim (kept-ends None (λ input. answer) ends) [
            | inl f ↦ let never = f.is_needed in absurd cc
            | inr (input, unread, like) ↦
                (file, seen, opens, like None (λ stdin. answer) [] (kept, refl) refl)
          ]

      -- the answer to what the file gives
      file-ends : (task_or_fault : Result Task Fault) (string : Option (List ℕ))
          → RunEnds reader SentTo err result
          (input_needed_by task_or_fault string (input_limit PLAINTEXT_LIMIT request.command))
          (λ input. output_of (ready_by PLAINTEXT_LIMIT task_or_fault string (Ok input)))
          → FoundWith (files.finds files.old) request.input
          (λ file. EndsWith string (Some file) task_or_fault)
      file-ends (Err fault) string ends = unread-ends (Err fault) ends
      file-ends (Ok task) (Some string) ends =
          unread-ends (output_of (prepared PLAINTEXT_LIMIT task string)) ends
      file-ends (Ok task) None ends =
          let limit = input_limit PLAINTEXT_LIMIT request.command in
          elim (kept-ends (Some limit) (λ input. output_of (prepared PLAINTEXT_LIMIT task input))
          ends) [
            | inl f ↦
                let is : limit ≡ f.limit = (cc f.is_needed) in
                let (file, seen, opens, same) = input-found (files.finds files.old) reads reader
                (limit + 1) (Err CannotRead) (λ missing. cc)
                (λ path at. break_law path reader.old reader.new f.input (limit + 1) at f.gives
                (omega (arith, f.short, is)) f.failed) request.input at in (
                  file,
                  seen,
                  opens,
                  rw same (HasRefused (record {
                    input = [];
                    reads = (kept, refl);
                    fault = Read Input;
                    answer = refl;
                    status = f.status;
                    memory_suffices = λ memory. let status = f.status in absurd cc;
                    output = f.output;
                    message = f.message;
                  })),
                )
            | inr (input, read, like) ↦
                let (file, seen, opens, same) = input-found (files.finds files.old) reads reader
                (limit + 1) (Ok input) (λ missing. cc)
                (λ path at. prefix_law path reader.old reader.new input (limit + 1) at read.gives
                read.bounded read.whole read.unfailed) request.input at in
                (file, seen, opens, like None _ [] (kept, refl) (rw same refl))
          ]

      pub drives-file : SentFrom reader → RequestDrives (Some (Ok request))
      unfolding run_answer_within
      drives-file sent =
          let (file, seen, opens, ends) = file-ends (task_of request contents salt) request.string
          sent in
          drives-with (Some file) seen opens ends

  -- ---- a fault before the output was made

  module _ (same_out : out.new ≡ out.old) (kept : src.new ≡ src.old) (fault : Fault)
      (status : result ≡ status_of fault) (line : Reports err (line_of fault)) where
    -- the files refuse it
    pub drives-refused : (request : Request) → fault ≢ Memory
        → RefusedBy (files.finds files.old)
        (λ paths. Opens files.executes files.old paths files.new) request fault
        → RequestDrives (Some (Ok request))
    drives-refused request suffices (found, seen, refused_so, went) =
        Ran refl request refl found seen files.new went (HasRefused (record {
          input = [];
          reads = rw (refused_so, unless_file-none found.input) (kept, refl);
          fault = fault;
          answer = rw refused_so refl;
          status = status;
          memory_suffices = λ memory. suffices (memory-alone fault (sym status ∙ memory));
          output = path-alone (files_from files.new files) out (output_access request.command)
              request.output refl same_out;
          message = line;
        }))

    -- there was no memory
    pub drives-without : files.new ≡ files.old → fault ≡ Memory
        → (requested : Option (Result Request Fault)) → RequestDrives requested
    drives-without same_files memory requested = Stopped same_files kept (MemoryLacked (record {
      status = status ∙ ap status_of memory;
      output = same_out;
      message = rw memory at line;
    }))

    -- the options are refused, or there was no memory for the request
    pub drives-unsettled : files.new ≡ files.old
        → (requested : Option (Result Request Fault)) → is_some requested ≡ true
        → IfSome requested (λ settled. Settles settled (Err fault))
        → RequestDrives requested
    drives-unsettled same_files None is settles = absurd cc
    drives-unsettled same_files (Some (Ok request)) is (inl e) = absurd cc
    drives-unsettled same_files (Some (Ok request)) is (inr e) =
        let memory : fault ≡ Memory = cc in drives-without same_files memory (Some (Ok request))
    drives-unsettled same_files (Some (Err other)) is settles =
        elim (memory-or-not result) [
          | inl memory ↦
              drives-without same_files (memory-alone fault (sym status ∙ memory))
              (Some (Err other))
          | inr suffices ↦
              let same : other ≡ fault = cc in
              Declined refl same_files kept (record {
                fault = fault;
                refused = rw same refl;
                status = status;
                memory_suffices = suffices;
                output = same_out;
                message = line;
              })
        ]

  -- ---- a request that was settled

  pub drives-settled : (requested : Option (Result Request Fault)) (request : Request)
      → is_some requested ≡ true
      → IfSome requested (λ settled. Settles settled (Ok request))
      → RequestDrives (Some (Ok request))
      → RequestDrives requested
  drives-settled None request some settles h = absurd cc
  drives-settled (Some (Err fault)) request some settles h = absurd cc
  drives-settled (Some (Ok other)) request some (inl e) h =
      let same : request ≡ other = cc in rw same at h
  drives-settled (Some (Ok other)) request some (inr e) h = absurd cc
