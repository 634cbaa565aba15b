use Rattle.vault_files.proofs.HostLemmas.{executed_one}
use Rattle.vault_files.specs.HostSystem.MakesUp.{creates}
use Rattle.vault_files.specs.System.SystemCall.{Create}
use Rattle.vault_files.proofs.system.host_system.HostFilesSystem.create.Goals as goal

pub returns : goal.returns
returns g c =
    let path = c.args.path.now in
    executed_one _ _ _ (Create path) _ (creates path) c.open_to_write.ensures
