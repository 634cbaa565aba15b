use Rattle.vault_files.proofs.HostLemmas.{executed_failed_write, executed_no_write}
use Rattle.vault_files.proofs.HostLemmas.{executed_write}
use Rattle.vault_files.proofs.system.host_system.HostFilesSystem.write.Goals as goal

pub returns-in-Ok-eq0-clause-executes : goal.returns-in-Ok-eq0-clause-executes
returns-in-Ok-eq0-clause-executes g c =
    executed_no_write _ _ _ _ c.write_some.ensures.call
    (rw c.in-Ok-eq0.field-0-test at c.in-Ok-eq0.is)

pub returns-in-Ok-clause-executes : goal.returns-in-Ok-clause-executes
returns-in-Ok-clause-executes g c =
    executed_write _ _ _ _ c.write_some.ensures.call _ c.in-Ok.is c.in-Ok.count-test.1

pub returns-in-Err-clause-executes : goal.returns-in-Err-clause-executes
returns-in-Err-clause-executes g c =
    executed_failed_write _ _ _ _ c.write_some.ensures.call _ c.in-Err.is
