use Rattle.vault_cli.proofs.theorems.ProgramLaws.{written_is_read}
use Rattle.vault_cli.proofs.laws.written_is_read.Goals as goal

pub returns : goal.returns
returns c = written_is_read
