use Rattle.std.proofs.Common.{◌≡◌, ◌≢◌, Err, false, refl, sym, ◌∙◌}
use Rattle.vault_text.specs.Limits.{limit_of}
use Rattle.vault_fault.specs.declared.fault.Fault.TheVariants.{Read}
use Rattle.vault_fault.specs.declared.fault.Role.TheVariants.{Input}
use Rattle.vault_cli.specs.Call.{source}
use Rattle.vault_cli.specs.runs.StoredTask.{as_task}
use Rattle.vault_cli.proofs.RunLemmas.{Prepares, runs-prepared, runs-refused}
use Rattle.vault_cli.proofs.TaskLemmas.{prepared-prefix}
use Rattle.vault_cli.proofs.runs.run_in.Goals as goal
use Rattle.vault_cli.proofs.runs.run_in.Goals.{in-Some, in-None}

pub returns-in-Err : goal.returns-in-Err
returns-in-Err g c =
    runs-refused (source g.S.Source c.args.src.now c.args.src.now) _ _ _ _ _ _ _ _
    c.in-Err.ensures.refused c.report.ensures.status refl refl c.report.ensures.line

pub returns : goal.returns
returns g c =
    let limit = limit_of c.args.memory.limit in
    let task = as_task c.in-Ok.task in
    let src = source g.S.Source c.args.src.now c.match-string.src in
    let prepares : Prepares src limit task c.match-string.ready c.args.request.now.string =
    elim c.match-string.branch [
      | in-Some w ↦
          let other : w.prepare-ready.result ≢ Err (Read Input) =
          λ unread. let risen = (w.prepare-ready.ensures.failed unread).failed in absurd cc in
          let (prefix, was) = w.prepare-ready.ensures.answered other in
          let gives = was.read.gives.0 in
          let text : w.new.result.left ≡ w.in-Some.string.now =
          rw w.new.ensures w.as_bytes.ensures.value in
          let unended : w.new.result.ended ≡ false = rw w.new.ensures refl in
          rw (w.src-is, w.ready-is, ← (rw w.in-Some.is at c.string.ensures)) (
            refl,
            was.answer
                ∙ prepared-prefix limit task _ _ prefix _ (sym text ∙ gives.consumed)
                (gives.end_is_real (λ ended. absurd cc)) was.read.whole,
          )
      | in-None w ↦
          rw (w.src-is, w.ready-is, ← (rw w.in-None.is at c.string.ensures))
          w.prepare-ready-in-None.ensures
    ] in
    runs-prepared src _ _ _ _ _ _ _ task c.in-Ok.ensures.task c.match-string.ready prepares
    c.write_or_report.ensures.writes c.write_or_report.ensures.full
