use Rattle.std.proofs.Common.{rules}
use Rattle.vault_aes.specs.KeyExpansion.{sub_word}
use Rattle.vault_aes.proofs.key_expansion.sub_word.Goals as goal

pub returns : goal.returns
unfolding sub_word
returns c = search rules
