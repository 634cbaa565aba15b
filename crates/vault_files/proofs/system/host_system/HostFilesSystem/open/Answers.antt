use Rattle.vault_files.proofs.HostLemmas.{executed_one}
use Rattle.vault_files.specs.HostSystem.MakesUp.{opens}
use Rattle.vault_files.specs.System.SystemCall.{Open}
use Rattle.vault_files.proofs.system.host_system.HostFilesSystem.open.Goals as goal

pub returns-clause-executes : goal.returns-clause-executes
returns-clause-executes g c =
    let path = c.args.path.now in
    executed_one _ _ _ (Open path) _ (opens path) c.open_to_read.ensures.call
