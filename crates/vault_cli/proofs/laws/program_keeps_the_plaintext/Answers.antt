use Rattle.vault_cli.proofs.theorems.ProgramLaws.{rekey_keeps_the_plaintext}
use Rattle.vault_cli.proofs.laws.program_keeps_the_plaintext.Goals as goal

pub returns : goal.returns
returns c = rekey_keeps_the_plaintext c.settled_requests.ensures c.rekey_keeps_the_plaintext.ensures
