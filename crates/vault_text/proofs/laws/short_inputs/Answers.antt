use Rattle.vault_text.proofs.theorems.LargerLimits.{short_inputs}
use Rattle.vault_text.proofs.laws.short_inputs.Goals as goal

pub returns : goal.returns
returns c = short_inputs
