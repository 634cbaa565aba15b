use Rattle.vault_cli.proofs.theorems.ProgramLaws.{program_is_run}
use Rattle.vault_cli.proofs.laws.program_is_run.Goals as goal

pub returns : goal.returns
returns c = program_is_run
