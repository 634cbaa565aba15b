use Rattle.vault_cli.proofs.theorems.Laws.{short_texts}
use Rattle.vault_cli.proofs.laws.short_texts.Goals as goal

pub returns : goal.returns
returns c = short_texts c.short_inputs.ensures
