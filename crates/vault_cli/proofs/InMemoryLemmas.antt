-- How the program ends over files, an input and sinks in memory, from how it ends over any.
use Rattle.std.proofs.Common.{◌≡◌, ◌⊎◌, ◌≤◌, ◌<◌, ℕ, ◌+◌, inl, inr, List, [], ◌++◌}
use Rattle.std.proofs.Common.{length, take, drop, Bool, true, false, Option, Some, None, IsTrue}
use Rattle.std.proofs.Common.{◌≢◌, Result, Ok, Err, refl, sym, arith, ◌∙◌, append_assoc}
use Rattle.std.proofs.Common.{zero-add}
use Rattle.std.proofs.lemmas.List.{append-nil, drop_all}
use Rattle.std.proofs.Math.Seq.{drop-append_seam}
use Rattle.clap.specs.Words.{Kinds}
use Rattle.vault_text.specs.Source.{MemSourceState, MemoryGives}
use Rattle.vault_files.specs.Memory.{Entry, IsReaderOf, ReaderState, StoreExecutes, StoreState}
use Rattle.vault_files.specs.Memory.{file_at}
use Rattle.vault_files.specs.MemoryProofs.{opens-logged}
use Rattle.vault_files.specs.PathLog.{LogState, logged}
use Rattle.vault_files.specs.System.{SystemCall}
use Rattle.vault_files.specs.Output.{FailsToBegin, OutputCalls, OutputState, beginning}
use Rattle.vault_files.specs.Output.FailsToBegin.{to_create, to_restrict, to_truncate}
use Rattle.vault_files.specs.Output.OutputCalls.{no_steps, steps}
use Rattle.vault_files.specs.Output.OutputState.{Chosen, Begun, Finished}
use Rattle.vault_files.specs.Output.OutputStep.{begins, writes, finishes}
use Rattle.vault_files.specs.Output.OutputStep.{fails_to_begin, fails_to_write, fails_to_finish}
use Rattle.vault_files.specs.declared.access.Access.{Access}
use Rattle.vault_files.specs.declared.access.Access.TheVariants.{Kept, OwnerOnly}
use Rattle.vault_files.specs.declared.limits.TheConstants.{PATH_LIMIT}
use Rattle.vault_fault.specs.declared.fault.Fault.{Fault}
use Rattle.vault_request.specs.Request.{Request}
use Rattle.vault_cli.specs.Access.{output_access}
use Rattle.vault_cli.specs.Call.{FilesCall, SinkCall, SourceCall, source, system}
use Rattle.vault_cli.specs.Drive.{Ends, to_path}
use Rattle.vault_cli.specs.Drive.Ends.{Declined, Ran, Stopped}
use Rattle.vault_cli.specs.Explained.Explains.{MemoryLacked, HelpShown, HelpFailed, Rejected}
use Rattle.vault_cli.specs.OpenedPaths.{opened_paths}
use Rattle.vault_cli.specs.InMemory.{IsKept, RunsInMemory, Taken, files_at, to_memory}
use Rattle.vault_cli.specs.runs.OutputEnd.{OutputEnd}
use Rattle.vault_cli.specs.runs.Run.{Reads, RunEnds}
use Rattle.vault_cli.specs.runs.Run.RunEnds.{Succeeded, HasRefused, OutputFailed, InputFailed}
use Rattle.vault_cli.specs.declared.runs.status.Status.{Status}
use Rattle.vault_cli.specs.declared.runs.status.Status.TheVariants.{OutOfMemory}
use Rattle.vault_cli.proofs.RunOutputLemmas.{input-or-read}
use Rattle.vault_cli.proofs.ProgramLemmas.{IsOfPrefix, answer-prefix, at-paths}

-- calls over files and a source in memory
abbrev pub memory_files : {W : Type 0} → StoreState → StoreState
    → FilesCall StoreState ReaderState W
memory_files old new = system (record {
  executes = StoreExecutes;
  finds = λ s path file. file ≡ file_at s.entries path;
  reader_at = λ s path reader. IsReaderOf (file_at s.entries path) reader;
}) old new

abbrev pub memory_source : MemSourceState → MemSourceState → SourceCall MemSourceState
memory_source old new =
    source (record { gives = MemoryGives; ended = λ s. s.ended; failures = λ _. 0 }) old new

-- ---- the file that is created

module _ (entries : List Entry) (log : Option LogState) (path : List ℕ) where
  -- the files before it was created
  abbrev uncreated : StoreState
  uncreated = record { entries = entries; created = None; log = log }

  -- the files once this was written to it
  abbrev written_at : List ℕ → ℕ → Bool → Bool → StoreState
  written_at held room synced cut = record {
    entries = entries;
    created = Some (record {
      path = path;
      bytes = held;
      room = room;
      synced = synced;
      cut = cut;
    });
    log = log;
  }

  -- it holds these bytes, was synced if its output is finished, and was cut if a use of its output
  -- failed, or if it was cut before
  record Left (was_cut : Bool) (t : OutputState) (bytes : List ℕ) (failed : ℕ) (u : StoreState)
      : Type 0 where
    pub room : ℕ
    pub synced : Bool
    pub cut : Bool
    pub is : u ≡ written_at bytes room synced cut
    pub whole : t ≡ Finished → synced ≡ true
    pub cut_if_failed : (failed ≡ 0) ⊎ (cut ≡ true)
    pub stays_cut : was_cut ≡ true → cut ≡ true

  -- an output that has begun, and one that was finished, whose file was synced
  abbrev IsWritten : OutputState → Bool → Type 0
  IsWritten (Chosen at access) synced = ⊥
  IsWritten Begun synced = Unit {0}
  IsWritten Finished synced = synced ≡ true

  synced-whole : (s : OutputState) (synced : Bool) → IsWritten s synced → s ≡ Finished
      → synced ≡ true
  synced-whole (Chosen at access) synced b is = absurd b
  synced-whole Begun synced b is = absurd cc
  synced-whole Finished synced b is = b

  holds : (s t : OutputState) (calls : List SystemCall) (bytes held : List ℕ) (n room : ℕ)
      (synced cut : Bool) (u : StoreState) → OutputCalls s calls bytes n t → IsWritten s synced
      → StoreExecutes (written_at held room synced cut) calls u → Left cut t (held ++ bytes) n u
  holds s _ _ _ held _ room synced cut u (no_steps _) b e = record {
    room = room;
    synced = synced;
    cut = cut;
    is = rw (append-nil held) e;
    whole = synced-whole s synced b;
    cut_if_failed = inl refl;
    stays_cut = λ was. was;
  }
  holds _ t _ _ held _ room synced cut u (steps _ _ _ _ more _ ys _ n (writes some) p) b (
    next,
    e,
  ) =
      rw (zero-add n, ← append_assoc held some ys)
      (holds Begun t more ys (held ++ some) n next false cut u p tt e)
  holds _ t _ _ held _ room synced cut u (steps _ _ _ _ more _ ys _ n finishes p) b e =
      rw (zero-add n) (holds Finished t more ys held n room true cut u p refl e)
  holds _ t _ _ held _ room synced cut u (steps _ _ _ _ more _ ys _ n (fails_to_write some) p)
      b (lacks, (next, e)) =
      let left = holds Begun t more ys held n next synced true u p tt e in
      record {
        room = left.room;
        synced = left.synced;
        cut = left.cut;
        is = left.is;
        whole = left.whole;
        cut_if_failed = inr (left.stays_cut refl);
        stays_cut = λ was. left.stays_cut refl;
      }
  holds _ t _ _ held _ room synced cut u (steps _ _ _ _ more _ ys _ n fails_to_finish p) b e =
      absurd e
  holds _ t _ _ held _ room synced cut u (steps _ _ _ _ more _ ys _ n (begins at access) p) b e =
      absurd b
  holds _ t _ _ held _ room synced cut u (steps _ _ _ _ more _ ys _ n (fails_to_begin at access
      calls fails) p) b e = absurd b

  -- an output that has begun is empty, and its path is short enough
  started : (access : Access) (more : List SystemCall) (u : StoreState)
      → StoreExecutes uncreated (beginning path access ++ more) u
      → (length path ≤ PATH_LIMIT) × StoreExecutes (written_at [] 0 false false) more u
  started Kept more u e = e
  started OwnerOnly more u e = e

  -- one that failed to begin could not be created
  failed : (access : Access) (calls : List SystemCall) → FailsToBegin path access calls
      → (more : List SystemCall) (u : StoreState) → StoreExecutes uncreated (calls ++ more) u
      → (PATH_LIMIT < length path) × StoreExecutes uncreated more u
  failed access _ to_create more u e = e
  failed access _ (to_restrict owner) more u e = absurd e.1
  failed Kept _ to_truncate more u e = absurd e.1
  failed OwnerOnly _ to_truncate more u e = absurd e.1

  -- an output that was not begun has left the files alone; if it failed, its path is too long
  record Unbegun (n : ℕ) (t : OutputState) (u : StoreState) : Type 0 where
    pub is : u ≡ uncreated
    pub unfinished : t ≢ Finished
    pub long_if_failed : (n ≡ 0) ⊎ (PATH_LIMIT < length path)

  -- what an output leaves that was chosen
  outcome : (access : Access) (t : OutputState) (calls : List SystemCall) (bytes : List ℕ) (n : ℕ)
      (u : StoreState) → OutputCalls (Chosen path access) calls bytes n t
      → StoreExecutes uncreated calls u
      → ((length path ≤ PATH_LIMIT) × Left false t bytes n u) ⊎ Unbegun n t u
  outcome access _ _ _ _ u (no_steps _) e =
      inr (record { is = e; unfinished = λ never. cc; long_if_failed = inl refl })
  outcome access t _ _ _ u (steps _ _ _ _ more _ ys _ n (begins _ _) p) e =
      let (fits, executed) = started access more u e in
      inl (fits, rw (zero-add n) (holds Begun t more ys [] n 0 false false u p tt executed))
  outcome access t _ _ _ u (steps _ _ _ _ more _ ys _ n (fails_to_begin _ _ calls fails) p) e =
      let (long, rest) = failed access calls fails more u e in
      elim (outcome access t more ys n u p rest) [
        | inl (fits, left) ↦ absurd (omega (arith, fits, long))
        | inr unbegun ↦ inr (record {
          is = unbegun.is;
          unfinished = unbegun.unfinished;
          long_if_failed = inr long;
        })
      ]

-- what is left after an input that reaches to the end of a text, or to one byte past a limit
taken-left : (text input left : List ℕ) (limit : ℕ) (ended : Bool) → text ≡ input ++ left
    → length input ≤ limit + 1 → (IsTrue ended → left ≡ [])
    → IsTrue ended ⊎ (length input ≡ limit + 1) → left ≡ drop (limit + 1) text
taken-left text input left limit ended e fits last (inl end) =
    rw (e, last end, append-nil) (sym (drop_all (limit + 1) input fits))
taken-left text input left limit ended e fits last (inr exact) =
    rw (e, ← exact) (sym (drop-append_seam input left))

-- what holds if a use failed, where one did
after-failure : {P : Type 0} (failed : ℕ) → failed ≡ 1 → (failed ≡ 0) ⊎ P → P
after-failure failed one (inl none) = absurd (omega (arith, one, none))
after-failure failed one (inr so) = so

module _ (W : Type 0) (old new : StoreState) (log : Option LogState) {K : Type 0}
    (out : SinkCall K) (none : old.created ≡ None) (access : Access) where
  abbrev files : FilesCall StoreState ReaderState W
  files = memory_files old new

  -- the files after the opens
  abbrev opened : StoreState
  opened = record old { log = log }

  abbrev OutputAt : Option (List ℕ) → OutputEnd
  OutputAt path = to_path (memory_files {W = W} opened new) out path access

  kept : new ≡ opened → IsKept files × (new.log ≡ log)
  kept same = (λ p. rw (same, none), rw same)

  -- nothing was written
  untouched : (path : Option (List ℕ)) → (OutputAt path).untouched
      → (to_memory files out path).untouched × (new.log ≡ log)
  untouched None (same_out, same) = let (stands, stays) = kept same in ((same_out, stands), stays)
  untouched (Some at) (same_out, same) =
      let (stands, stays) = kept same in ((same_out, stands), stays)

  -- what the file at a path is after these calls of its output
  left-at : (at bytes : List ℕ) (calls : List SystemCall) (n : ℕ) (t : OutputState)
      → StoreExecutes opened calls new → OutputCalls (Chosen at access) calls bytes n t
      → ((length at ≤ PATH_LIMIT) × Left old.entries log at false t bytes n new)
      ⊎ Unbegun old.entries log at n t new
  left-at at bytes calls n t executed is =
      let fresh : opened ≡ uncreated old.entries log at = rw none refl in
      outcome old.entries log at access t calls bytes n new is (rw fresh at executed)

  -- the answer is there whole
  received : (path : Option (List ℕ)) (bytes : List ℕ) → (OutputAt path).received bytes
      → (to_memory files out path).received bytes × (new.log ≡ log)
  received None bytes (took, same) = let (stands, stays) = kept same in ((took, stands), stays)
  received (Some at) bytes (same_out, (calls, executed, is)) =
      elim (left-at at bytes calls 0 Finished executed is) [
        | inl (fits, left) ↦
            ((same_out, λ p. rw left.is refl, rw left.is (left.whole refl)), rw left.is refl)
        | inr unbegun ↦ absurd (unbegun.unfinished refl)
      ]

  -- or its first bytes
  cut : (path : Option (List ℕ)) (bytes : List ℕ) → (OutputAt path).cut bytes
      → (to_memory files out path).cut bytes × (new.log ≡ log)
  cut None bytes (took, same) = let (stands, stays) = kept same in ((took, stands), stays)
  cut (Some at) bytes (same_out, (n, calls, executed, (state, is))) =
      elim (left-at at (take n bytes) calls 1 state executed is) [
        | inl (fits, left) ↦
            let is_cut = after-failure 1 refl left.cut_if_failed in
            ((same_out, inr (rw left.is is_cut, (n, λ p. rw left.is refl))), rw left.is refl)
        | inr unbegun ↦
            let long = after-failure 1 refl unbegun.long_if_failed in
            ((same_out, inl (long, λ p. rw unbegun.is refl)), rw unbegun.is refl)
      ]

  module _ (path : Option (List ℕ)) (src src_new : MemSourceState) (not_ended : src.ended ≡ false)
      {E : Type 0} (err : SinkCall E) (result : Status) (needed : Option ℕ)
      (answers : List ℕ → Result (List ℕ) Fault) where
    abbrev pub Source : SourceCall MemSourceState
    Source = memory_source src src_new

    -- nothing is left where the end was reported
    at-end : (input : List ℕ) → MemoryGives src input src_new → IsTrue src_new.ended
        → src_new.left ≡ []
    at-end input given = given.0.end_is_real (λ ended. absurd cc)

    -- the answer to what was read is the answer to all that was there, and that was taken
    read-all : (needed : Option ℕ) → IsOfPrefix needed answers → (input : List ℕ)
        → Reads Source needed input → (answers input ≡ answers src.left) × Taken needed Source
    read-all None same input (unread, is) = (rw is (same src.left), unread)
    read-all (Some limit) same input read = (
      same src_new.ended src.left input src_new.left read.gives.0.consumed
          (at-end input read.gives) read.whole,
      taken-left src.left input src_new.left limit src_new.ended read.gives.0.consumed
          read.bounded (at-end input read.gives) read.whole,
    )

    -- the log stays as it was after the opens
    stays : RunEnds Source (OutputAt path) err result needed answers → new.log ≡ log
    stays (Succeeded s) = (received path s.bytes s.output).1
    stays (HasRefused r) = (untouched path r.output).1
    stays (OutputFailed f) = (cut path f.bytes f.output).1
    stays (InputFailed f) = (untouched path f.output).1

    -- a run ends so
    pub ends-run : IsOfPrefix needed answers
        → RunEnds Source (OutputAt path) err result needed answers
        → RunEnds Source (to_memory files out path) err result needed (λ _. answers src.left)
        × Taken needed Source × (new.log ≡ log)
    ends-run same ends =
        elim (input-or-read Source Source err result (OutputAt path) (to_memory files out path)
        (record {
          untouched = λ left. (untouched path left).0;
          received = λ bytes all. (received path bytes all).0;
          cut = λ bytes some. (cut path bytes some).0;
        }) needed answers ends) [
          | inl f ↦ absurd (omega (arith, f.failed))
          | inr (input, read, like) ↦
              let (all, taken) = read-all needed same input read in
              (like needed (λ _. answers src.left) input read (sym all), taken, stays ends)
        ]

-- ---- how the program ends over files in memory

-- arguments make one request
requests-same : (requested : Option (Result Request Fault)) (one other : Request)
    → requested ≡ Some (Ok one) → requested ≡ Some (Ok other) → one ≡ other
requests-same requested one other is also = cc

module _ (W : Type 0) (old new : StoreState) (src src_new : MemSourceState) {K E : Type 0}
    (out : SinkCall K) (err : SinkCall E) (result : Status) (none : old.created ≡ None)
    (not_ended : src.ended ≡ false) (kinds : Kinds) (requested : Option (Result Request Fault))
    (request : Request) where
  pub runs-in_memory : kinds ≡ [] → requested ≡ Some (Ok request) → result ≢ OutOfMemory
      → Ends (memory_files {W = W} old new) (memory_source src src_new) out err result kinds
      requested
      → RunsInMemory (memory_files {W = W} old new) (memory_source src src_new) out err result
      request (files_at (file_at old.entries) request)
  runs-in_memory parses is fits (Stopped same unread (MemoryLacked m)) = absurd (fits m.status)
  runs-in_memory parses is fits (Stopped same unread (HelpShown h)) =
      absurd (rw parses at h.is_among)
  runs-in_memory parses is fits (Stopped same unread (HelpFailed h)) =
      absurd (rw parses at h.is_among)
  runs-in_memory parses is fits (Stopped same unread (Rejected r)) =
      absurd (rw parses at r.is_among)
  runs-in_memory parses is fits (Declined _ same unread d) =
      let never : Some (Ok request) ≡ Some (Err d.fault) = sym is ∙ d.refused in absurd cc
  runs-in_memory parses is fits (Ran _ other other_is seen all_found later went ends) =
      let same : other ≡ request = requests-same requested other request other_is is in
      let found = at-paths (file_at old.entries) request seen (rw same at all_found) in
      let all = files_at (file_at old.entries) request in
      let paths = opened_paths request all in
      let opens = rw (same, found) at went in
      let logs = opens-logged old later paths opens.calls opens.are_opens opens.executed in
      let (ends_so, taken, stays) =
      ends-run W old new (logged old.log paths) out none (output_access request.command)
      request.output src src_new not_ended err result _ _ (answer-prefix request all)
      (rw (same, found, logs) at ends) in
      record { ends = ends_so; taken = taken; opened = stays }
