use Rattle.std.proofs.Common.{◌∙◌, ap, inr}
use Rattle.vault_cli.specs.runs.Status.{status_of}
use Rattle.vault_cli.proofs.runs.write_or_report.Goals as goal

pub returns-in-Err-write_to-clause-writes : goal.returns-in-Err-write_to-clause-writes
returns-in-Err-write_to-clause-writes g c =
    let (n, took) = c.write_to.ensures.prefix in
    rw c.in-Ok.is (inr (
      c.report.ensures.status ∙ ap status_of c.from.ensures,
      (n, took, c.in-Err-write_to.ensures.failed),
      rw c.from.ensures at c.report.ensures.line,
    ))
