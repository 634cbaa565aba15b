use Rattle.vault_cli.proofs.theorems.Laws.{answers_are_decided}
use Rattle.vault_cli.proofs.laws.answers_are_decided.Goals as goal

pub returns : goal.returns
returns c = answers_are_decided
