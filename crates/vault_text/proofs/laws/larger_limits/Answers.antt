use Rattle.vault_text.proofs.theorems.LargerLimits.{larger_limits}
use Rattle.vault_text.proofs.laws.larger_limits.Goals as goal

pub returns : goal.returns
returns c = larger_limits
