-- How a run ends over one output, carried over to another.
use Rattle.std.proofs.Common.{◌≡◌, ◌⊎◌, inl, inr, ℕ}
use Rattle.std.proofs.Common.{List, Option, Some, None, Result, ap, ◌∙◌, refl, sym}
use Rattle.std.proofs.Common.{arith}
use Rattle.vault_text.specs.declared.sink.Stage.TheVariants as stage
use Rattle.vault_files.specs.Output.{FileOutputState, FileTakes, OutputState, stage_of}
use Rattle.vault_files.specs.Output.OutputState.{Begun, Chosen, Finished}
use Rattle.vault_files.specs.System.{SystemCall}
use Rattle.vault_files.specs.declared.access.Access.{Access}
use Rattle.vault_files.specs.declared.system.System.{Ghosts as SystemTerms}
use Rattle.vault_fault.specs.declared.fault.Fault.{Fault}
use Rattle.vault_cli.specs.Call.{FilesCall, SinkCall, SourceCall, sink, system}
use Rattle.vault_cli.specs.Drive.{to_path}
use Rattle.vault_cli.specs.runs.OutputEnd.{OutputEnd, to_sink}
use Rattle.vault_cli.specs.runs.Run.{InputFails, Reads, RunEnds}
use Rattle.vault_cli.specs.runs.Run.RunEnds.{Succeeded, HasRefused, OutputFailed, InputFailed}
use Rattle.vault_cli.specs.declared.runs.status.Status.{Status}

-- what became of the one output became of the other, too
pub record CarriesOver (there here : OutputEnd) : Type 0 where
  pub untouched : there.untouched → here.untouched
  pub received : (bytes : List ℕ) → there.received bytes → here.received bytes
  pub cut : (bytes : List ℕ) → there.cut bytes → here.cut bytes

-- of the same output
pub carries-same : (out : OutputEnd) → CarriesOver out out
carries-same out = record {
  untouched = λ left. left;
  received = λ bytes all. all;
  cut = λ bytes some. some;
}

module _ {S T E : Type 0} (from : SourceCall S) (to : SourceCall T) (err : SinkCall E)
    (result : Status) (there here : OutputEnd) (carries : CarriesOver there here)
    (needed : Option ℕ) (answers : List ℕ → Result (List ℕ) Fault) where
  -- a run that read something else to the same answer
  abbrev pub EndsLike : List ℕ → Type 0
  EndsLike input =
      (wanted : Option ℕ) (others : List ℕ → Result (List ℕ) Fault) (other : List ℕ)
      → Reads to wanted other → others other ≡ answers input
      → RunEnds to here err result wanted others

  -- a run whose source failed, or that read something
  pub input-or-read : RunEnds from there err result needed answers
      → InputFails from there err result needed answers
      ⊎ ((input : List ℕ) × Reads from needed input × EndsLike input)
  input-or-read (Succeeded s) = inr (
    s.input,
    s.reads,
    λ wanted others other reads same. Succeeded (record {
      input = other;
      reads = reads;
      bytes = s.bytes;
      answer = same ∙ s.answer;
      status = s.status;
      output = carries.received s.bytes s.output;
      message = s.message;
    }),
  )
  input-or-read (HasRefused r) = inr (
    r.input,
    r.reads,
    λ wanted others other reads same. HasRefused (record {
      input = other;
      reads = reads;
      fault = r.fault;
      answer = same ∙ r.answer;
      status = r.status;
      memory_suffices = r.memory_suffices;
      output = carries.untouched r.output;
      message = r.message;
    }),
  )
  input-or-read (OutputFailed f) = inr (
    f.input,
    f.reads,
    λ wanted others other reads same. OutputFailed (record {
      input = other;
      reads = reads;
      bytes = f.bytes;
      answer = same ∙ f.answer;
      status = f.status;
      output = carries.cut f.bytes f.output;
      message = f.message;
    }),
  )
  input-or-read (InputFailed f) = inl f

module _ {S E : Type 0} (src : SourceCall S) (err : SinkCall E) (result : Status)
    (needed : Option ℕ) (answers : List ℕ → Result (List ℕ) Fault) where
  ends-carried : (there here : OutputEnd) → CarriesOver there here
      → RunEnds src there err result needed answers → RunEnds src here err result needed answers
  ends-carried there here carries ends =
      elim (input-or-read src src err result there here carries needed answers ends) [
        | inl f ↦ InputFailed (record {
          input = f.input;
          limit = f.limit;
          is_needed = f.is_needed;
          gives = f.gives;
          short = f.short;
          failed = f.failed;
          status = f.status;
          output = carries.untouched f.output;
          message = f.message;
        })
        | inr (input, read, like) ↦ like needed answers input read refl
      ]

  -- a run whose output is standard output
  pub ends-out : {D R W K : Type 0} (files : FilesCall D R W) (out : SinkCall K) (access : Access)
      (path : Option (List ℕ)) → path ≡ None → files.new ≡ files.old
      → RunEnds src (to_sink out) err result needed answers
      → RunEnds src (to_path files out path access) err result needed answers
  ends-out files out access path is kept ends =
      rw is (ends-carried (to_sink out) (to_path files out None access) (record {
        untouched = λ same. (same, kept);
        received = λ bytes received. (received, kept);
        cut = λ bytes cut. (cut, kept);
      }) ends)

-- the other output is left alone where nothing was written
pub path-alone : {D R W K : Type 0} (files : FilesCall D R W) (out : SinkCall K) (access : Access)
    (path : Option (List ℕ)) → files.new ≡ files.old → out.new ≡ out.old
    → (to_path files out path access).untouched
path-alone files out access None same_files same_out = (same_out, same_files)
path-alone files out access (Some path) same_files same_out = (same_out, same_files)

-- ---- a run whose output is a file of a system

-- a call over a file of a system
abbrev file_sink : {D : Type 0} → (D → List SystemCall → D → Type 0) → FileOutputState D
    → FileOutputState D → SinkCall (FileOutputState D)
file_sink executes old new = sink (record {
  takes = FileTakes executes;
  stage = λ s. stage_of s.output;
  failures = λ s. s.failures;
}) old new

stage-finished : (s : OutputState) → stage_of s ≡ stage.Finished → s ≡ Finished
stage-finished (Chosen path access) is = absurd cc
stage-finished Begun is = absurd cc
stage-finished Finished is = refl

module _ {D R W S E : Type 0} (terms : SystemTerms D R W) (file left : FileOutputState D)
    (src : SourceCall S) (err : SinkCall E) (result : Status) (needed : Option ℕ)
    (answers : List ℕ → Result (List ℕ) Fault) where
  abbrev pub EndsInFile : Type 0
  EndsInFile = RunEnds src (to_sink (file_sink terms.executes file left)) err result needed answers

  -- it borrows that system still
  pub ends-same : EndsInFile → left.system.ghost_name ≡ file.system.ghost_name
  ends-same (Succeeded s) = let (took, finished, unfailed) = s.output in took.same_reference
  ends-same (HasRefused r) = ap (λ (s : FileOutputState D). s.system.ghost_name) r.output
  ends-same (OutputFailed f) = let (count, took, failed) = f.output in took.same_reference
  ends-same (InputFailed f) = ap (λ (s : FileOutputState D). s.system.ghost_name) f.output

  -- what was written to it is in the file at its path
  pub ends-file : {K : Type 0} (out : SinkCall K) → out.new ≡ out.old
      → (path : List ℕ) (access : Access) (old new : D) → file.system.now ≡ old
      → file.output ≡ Chosen path access → file.failures ≡ 0 → left.system.now ≡ new
      → (output_file : Option (List ℕ)) → output_file ≡ Some path → EndsInFile
      → RunEnds src (to_path (system terms old new) out output_file access) err result needed
      answers
  ends-file out alone path access old new is_old chosen fresh is_new output_file is ends =
      rw is (ends-carried src err result needed answers
      (to_sink (file_sink terms.executes file left))
      (to_path (system terms old new) out (Some path) access) (record {
        untouched = λ same.
            (alone, sym is_new ∙ ap (λ (s : FileOutputState D). s.system.now) same ∙ is_old);
        received = λ bytes (took, finished, unfailed).
            let none : took.failed ≡ 0 = omega (arith, took.failures, unfailed) in
            let end : left.output ≡ Finished = stage-finished left.output finished in (
              alone,
              (
                took.calls,
                rw (is_old, is_new) at took.executed,
                rw (chosen, none, end) at took.are_of_output,
              ),
            );
        cut = λ bytes (count, took, risen).
            let one : took.failed ≡ 1 = omega (arith, took.failures, fresh, risen) in (
              alone,
              (
                count,
                took.calls,
                rw (is_old, is_new) at took.executed,
                (left.output, rw (chosen, one) at took.are_of_output),
              ),
            );
      }) ends)
