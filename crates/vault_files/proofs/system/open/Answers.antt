use Rattle.std.proofs.Common.{[], ◌∷◌}
use Rattle.vault_files.specs.System.{called}
use Rattle.vault_files.specs.System.SystemCall.{Open}
use Rattle.vault_files.proofs.OutputLemmas.{one_open}
use Rattle.vault_files.proofs.system.open.Goals as goal

pub returns-clause-opens : goal.returns-clause-opens
returns-clause-opens g c = record {
  calls = called (Open c.args.path.now) c.open.result ∷ [];
  executed = c.open.ensures.executes;
  are_opens = one_open c.args.path.now c.open.result;
}
