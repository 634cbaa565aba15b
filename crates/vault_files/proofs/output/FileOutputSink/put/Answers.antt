use Rattle.std.proofs.Common.{arith, refl}
use Rattle.vault_files.specs.Output.OutputStep.{writes, fails_to_write}
use Rattle.vault_files.specs.OutputProofs.{FileTakes-none}
use Rattle.vault_files.proofs.OutputLemmas.{rises, takes_by}
use Rattle.vault_files.proofs.output.FileOutputSink.put.Goals as goal

pub returns-then-is_saturated-clause-takes : goal.returns-then-is_saturated-clause-takes
returns-then-is_saturated-clause-takes g c = FileTakes-none g.D.System.executes
    g.met.D.System.executes_none _

pub returns-in-Ok-clause-takes : goal.returns-in-Ok-clause-takes
returns-in-Ok-clause-takes g c =
    rw (← c.self.view_is, c.in-Open.is)
    (takes_by g.D.System.executes _ _ (writes _) c.in-Ok.ensures.executes (omega arith) refl)

pub returns-in-Err-clause-takes : goal.returns-in-Err-clause-takes
returns-in-Err-clause-takes g c =
    let risen = rises _ _ c.if-is_saturated.ensures.saturated c.fail.ensures.risen in
    rw (← c.self.view_is, c.in-Open.is, c.fail.ensures.error)
    (takes_by g.D.System.executes _ _ (fails_to_write _) c.in-Err.ensures.executes risen refl)
