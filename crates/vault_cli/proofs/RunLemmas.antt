-- How a run ends, by what its task answered.
use Rattle.std.proofs.Common.{◌≡◌, ◌≢◌, ◌⊎◌, ℕ, List, [], Option, Some, None, Result, Ok, Err, inl}
use Rattle.std.proofs.Common.{inr, sym, ap, subst, refl}
use Rattle.vault_text.specs.Failures.{HasRisen, IsSaturated}
use Rattle.vault_fault.specs.declared.fault.Fault.{Fault}
use Rattle.vault_fault.specs.declared.fault.Fault.TheVariants.{Read}
use Rattle.vault_fault.specs.declared.fault.Role.TheVariants.{Input}
use Rattle.vault_core.proofs.InputLemmas.{cases_unread}
use Rattle.vault_core.specs.Input.{ReadFails, ReadsInput}
use Rattle.vault_core.specs.Ready.{Ready}
use Rattle.vault_request.specs.Request.{Request}
use Rattle.vault_cli.specs.Call.{SinkCall, SourceCall}
use Rattle.vault_cli.specs.runs.Answer.{input_limit, input_needed, input_needed_by, output_of}
use Rattle.vault_cli.specs.runs.Answer.{prepared, ready_by, run_answer_within, task_limit}
use Rattle.vault_cli.specs.runs.Writes.{Writes}
use Rattle.vault_cli.specs.runs.Reports.{Reports, line_of}
use Rattle.vault_cli.specs.runs.OutputEnd.{to_sink}
use Rattle.vault_cli.specs.runs.Run.{RunEnds, Reads, RunsRequest}
use Rattle.vault_cli.specs.runs.Run.RunEnds.{Succeeded, HasRefused, OutputFailed, InputFailed}
use Rattle.vault_cli.specs.runs.Status.{status_of}
use Rattle.vault_cli.specs.runs.Task.{Task, task_of}
use Rattle.vault_cli.specs.declared.runs.status.Status.{Status}
use Rattle.vault_cli.specs.declared.runs.status.Status.TheVariants.{DeviceFailed, Refused, Success}
use Rattle.vault_cli.proofs.AnswerLemmas.{requested-no_string}
use Rattle.vault_cli.proofs.TaskSoundLemmas.{keeps-task_of}
use Rattle.vault_cli.proofs.StatusLemmas.{IsRefusedAlone, alone-prepared}

-- a task was prepared on the STRING, if there is one: then the source is left alone; or else on
-- what the source gives, if that does not fail at each call
abbrev pub Prepares : {S : Type 0} → SourceCall S → ℕ → Task → Result Ready Fault
    → Option (List ℕ) → Type 0
Prepares src limit task answer (Some string) =
    (src.new ≡ src.old) × (answer ≡ prepared limit task string)
Prepares src limit task answer None = record {
  answered : answer ≢ Err (Read Input) → (input : List ℕ) × record {
    read : ReadsInput src (task_limit limit task) input;
    answer : answer ≡ prepared limit task input;
  };
  failed : answer ≡ Err (Read Input) → ReadFails src (task_limit limit task);
  full : IsSaturated (src.failures src.old) → answer ≡ Err (Read Input);
}

module _ {S K E : Type 0} (src : SourceCall S) (out : SinkCall K) (err : SinkCall E)
    (result : Status) where
  -- what was read has an answer, which was written
  ends-written : (needed : Option ℕ) (answers : List ℕ → Result (List ℕ) Fault)
      (input : List ℕ) → Reads src needed input
      → (answer : Result Ready Fault) → IsRefusedAlone answer
      → answers input ≡ output_of answer → Writes out err result answer
      → RunEnds src (to_sink out) err result needed answers
  ends-written needed answers input reads (Ok ready) alone is (inl (status, received, silent)) =
      Succeeded (record {
        input = input;
        reads = reads;
        bytes = ready.output;
        answer = is;
        status = status;
        output = received;
        message = silent;
      })
  ends-written needed answers input reads (Ok ready) alone is (inr (status, cut, line)) =
      OutputFailed (record {
        input = input;
        reads = reads;
        bytes = ready.output;
        answer = is;
        status = status;
        output = cut;
        message = line;
      })
  ends-written needed answers input reads (Err fault) refused is (status, unwritten, line) =
      HasRefused (record {
        input = input;
        reads = reads;
        fault = fault;
        answer = is;
        status = status;
        memory_suffices = λ memory. cc;
        output = unwritten;
        message = line;
      })

  -- ---- on the STRING, or on the input

  module _ (limit : ℕ) (task : Task) where
    ends-text : (answer : Result Ready Fault) (string : Option (List ℕ))
        → Prepares src limit task answer string → Writes out err result answer
        → RunEnds src (to_sink out) err result
        (input_needed_by (Ok task) string (task_limit limit task))
        (λ text. output_of (ready_by limit (Ok task) string (Ok text)))
    ends-text answer (Some string) (unread, is) done =
        ends-written None (λ text. output_of (prepared limit task string)) [] (unread, refl)
        answer (rw is (alone-prepared limit task string)) (ap output_of (sym is)) done
    ends-text answer None prepares done =
        elim (cases_unread answer) [
          | inl unread ↦
              let fails = prepares.failed unread in
              let (status, unwritten, line) = subst (Writes out err result) unread done in
              InputFailed (record {
                input = fails.input;
                limit = task_limit limit task;
                is_needed = refl;
                gives = fails.gives;
                short = fails.short;
                failed = fails.failed;
                status = status;
                output = unwritten;
                message = line;
              })
          | inr other ↦
              let (input, was) = prepares.answered other in
              ends-written (Some (task_limit limit task))
              (λ text. output_of (prepared limit task text)) input was.read answer
              (rw was.answer (alone-prepared limit task input)) (ap output_of (sym was.answer))
              done
        ]

    -- the status says that a device failed only if one did
    device-failed : (answer : Result Ready Fault) (string : Option (List ℕ))
        → Prepares src limit task answer string → Writes out err result answer
        → result ≡ DeviceFailed
        → HasRisen (src.failures src.old) (src.failures src.new)
        ⊎ HasRisen (out.failures out.old) (out.failures out.new)
    device-failed (Ok ready) string prepares (inl (status, received, silent)) failed = absurd cc
    device-failed (Ok ready) string prepares (inr (status, (n, took, risen), line)) failed =
        inr risen
    device-failed (Err fault) (Some string) (unread, is) (status, unwritten, line) failed =
        let refused : status_of fault ≡ Refused =
        rw (sym is) at (alone-prepared limit task string) in
        absurd cc
    device-failed (Err fault) None prepares (status, unwritten, line) failed =
        elim (cases_unread {A = Ready} (Err fault)) [
          | inl unread ↦ inl (prepares.failed unread).failed
          | inr other ↦
              let (input, was) = prepares.answered other in
              let refused : status_of fault ≡ Refused =
              rw (sym was.answer) at (alone-prepared limit task input) in
              absurd cc
        ]

  -- a run whose steps 9 to 11 answer so
  module _ (limit : ℕ) (request : Request) (contents : List (List ℕ)) (salt : List ℕ) where
    abbrev EndsAfter : Result Task Fault → Type 0
    EndsAfter task_or_fault =
        RunEnds src (to_sink out) err result
        (input_needed_by task_or_fault request.string (input_limit limit request.command))
        (λ input. output_of (ready_by limit task_or_fault request.string (Ok input)))

    abbrev EndsWithin : Type 0
    EndsWithin =
        RunEnds src (to_sink out) err result (input_needed limit request contents salt)
        (run_answer_within limit request contents salt)

    abbrev Runs : Type 0
    Runs = RunsRequest limit request contents salt src out err result

    ends-after : (task_or_fault : Result Task Fault) → task_of request contents salt ≡ task_or_fault
        → EndsAfter task_or_fault → EndsWithin
    unfolding run_answer_within
    ends-after task_or_fault is ends = subst EndsAfter (sym is) ends

    -- they refused
    pub runs-refused : (fault : Fault) → task_of request contents salt ≡ Err fault
        → result ≡ status_of fault → src.new ≡ src.old → out.new ≡ out.old
        → Reports err (line_of fault) → Runs
    runs-refused fault refusal status unread unwritten line =
        let refused : status_of fault ≡ Refused =
        rw refusal at (keeps-task_of request salt contents) in
        record {
          ends = ends-after (Err fault) refusal
              (ends-written None (λ input. Err fault) [] (unread, refl) (Err fault) refused refl
              (status, unwritten, line));
          device_failed = λ failed. absurd cc;
          full_source = λ needed full. let never = rw refusal at needed in absurd cc;
          full_output = λ full succeeds. cc;
        }

    -- they gave a task, which was prepared, and its answer written
    pub runs-prepared : (task : Task) → task_of request contents salt ≡ Ok task
        → (answer : Result Ready Fault) → Prepares src limit task answer request.string
        → Writes out err result answer
        → (IsSaturated (out.failures out.old) → result ≢ Success) → Runs
    runs-prepared task found answer prepares done full = record {
      ends = ends-after (Ok task) found
          (rw (← (rw found at (keeps-task_of request salt contents)).0 limit)
          (ends-text limit task answer request.string prepares done));
      device_failed = device-failed limit task answer request.string prepares done;
      full_source = λ needed saturated.
          let unread = (rw (requested-no_string _ _ _ needed) at prepares).full saturated in
          (subst (Writes out err result) unread done).0;
      full_output = full;
    }
