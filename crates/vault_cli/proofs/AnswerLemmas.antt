-- The answer to a request by what is prepared, and what follows where its input is asked for.
use Rattle.std.proofs.Common.{◌≡◌, ◌≢◌, ℕ, List, Option, Some, None, Result, Ok, Err, refl, true}
use Rattle.std.specs.Prelude.{unwrap_or, is_some}
use Rattle.vault_text.specs.Steps.{◌>>=◌}
use Rattle.vault_fault.specs.declared.fault.Fault.{Fault}
use Rattle.vault_core.specs.Ready.{Ready}
use Rattle.vault_request.specs.Laws.{IsRequest}
use Rattle.vault_request.specs.Request.{Request}
use Rattle.vault_request.specs.declared.command_name.CommandName.TheVariants.{EncryptString}
use Rattle.vault_cli.specs.runs.Answer.{output_of, run_answer_within, prepared, ready_by}
use Rattle.vault_cli.specs.runs.Answer.{input_needed_by}
use Rattle.vault_cli.specs.runs.Task.{Task, task_of}

-- two steps that answer
pub steps-ok : {A B : Type 0} (first : Result A Fault) (second : A → Result B Fault) (y : B)
    → (first >>= second) ≡ Ok y → (x : A) × (first ≡ Ok x) × (second x ≡ Ok y)
steps-ok (Ok x) second y e = (x, refl, e)
steps-ok (Err fault) second y e = absurd cc

-- a task is prepared on the STRING, or else on the input
pub ready-text : (limit : ℕ) (task : Task) (string : Option (List ℕ)) (input : List ℕ)
    → ready_by limit (Ok task) string (Ok input) ≡ prepared limit task (unwrap_or string input)
ready-text limit task None input = refl
ready-text limit task (Some string) input = refl

-- an output comes of something ready
output_of-ok : (r : Result Ready Fault) (output : List ℕ) → output_of r ≡ Ok output
    → (ready : Ready) × (r ≡ Ok ready) × (ready.output ≡ output)
output_of-ok (Ok ready) output e = (ready, refl, (cc))
output_of-ok (Err fault) output e = absurd cc

-- a request of another command than `encrypt_string`, which has no STRING
module _ (limit : ℕ) (request : Request) (contents : List (List ℕ)) (salt input : List ℕ)
    (known : IsRequest request) (other : request.command ≢ EncryptString)
    (task : Task) (found : task_of request contents salt ≡ Ok task) where
  pub run_answer-prepared : run_answer_within limit request contents salt input
      ≡ output_of (prepared limit task input)
  unfolding run_answer_within
  run_answer-prepared = rw (found, known.string other)

  pub run_answer-output : (output : List ℕ)
      → run_answer_within limit request contents salt input ≡ Ok output
      → (ready : Ready) × (prepared limit task input ≡ Ok ready) × (ready.output ≡ output)
  run_answer-output output written =
      output_of-ok (prepared limit task input) output (rw run_answer-prepared at written)

-- where a source is asked there is no STRING
pub requested-no_string : (task_or_fault : Result Task Fault) (string : Option (List ℕ)) (limit : ℕ)
    → is_some (input_needed_by task_or_fault string limit) ≡ true → string ≡ None
requested-no_string (Err fault) string limit requested = absurd cc
requested-no_string (Ok task) (Some string) limit requested = absurd cc
requested-no_string (Ok task) None limit requested = refl
