use Rattle.std.proofs.Common.{rules, tests}
use Rattle.vault_text.proofs.InnerReaderLemmas.{unhex-bad, unhex-long}
use Rattle.vault_text.proofs.reader.parts.ShortPart.finish.Goals as goal

pub returns-then-self-clause-long : goal.returns-then-self-clause-long
returns-then-self-clause-long g c digits has =
    elim c.then-self.branch [
      | goal.then-self-via-then-self w ↦
          unhex-long g.row.LIMIT _ digits has (rw (← c.self.view_is) w.if-self.true)
      | goal.then-self-via-else-self+then-not-is_complete w ↦
          rw (unhex-bad g.row.LIMIT _ digits has (rw (← c.self.view_is) (search (rules, tests)))) tt
    ]
