use Rattle.std.proofs.Common.{◌≡◌, arith, true, false, refl}
use Rattle.std.specs.Result.{is_ok}
use Rattle.vault_files.specs.Output.OutputStep.{finishes, fails_to_finish}
use Rattle.vault_files.specs.OutputProofs.{FileTakes-none}
use Rattle.vault_files.specs.System.SystemCall.{Sync}
use Rattle.vault_files.proofs.OutputLemmas.{called-is, rises, takes_by}
use Rattle.vault_files.proofs.output.FileOutputSink.finish.Goals as goal

pub returns-then-is_saturated-clause-takes : goal.returns-then-is_saturated-clause-takes
returns-then-is_saturated-clause-takes g c = FileTakes-none g.D.System.executes
    g.met.D.System.executes_none _

pub returns-then-is_err-clause-takes : goal.returns-then-is_err-clause-takes
returns-then-is_err-clause-takes g c =
    let made : is_ok c.sync.result ≡ false = grind (arith, c.if-is_err.ensures, c.if-is_err.true) in
    rw (← c.self.view_is, c.in-Open.is)
    (takes_by g.D.System.executes _ _ fails_to_finish
    (rw (called-is Sync c.sync.result, made) at c.sync.ensures)
    (rises _ _ c.if-is_saturated.ensures.saturated c.fail.ensures.risen) refl)

pub returns-clause-takes : goal.returns-clause-takes
returns-clause-takes g c =
    let made : is_ok c.sync.result ≡ true = grind (arith, c.if-is_err.ensures, c.if-is_err.false) in
    rw (← c.self.view_is, c.in-Open.is)
    (takes_by g.D.System.executes _ _ finishes
    (rw (called-is Sync c.sync.result, made) at c.sync.ensures) (omega arith) refl)
