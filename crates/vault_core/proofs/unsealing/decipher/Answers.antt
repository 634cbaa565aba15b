use Rattle.vault_aes.proofs.PaddingLemmas.{take-without_padding}
use Rattle.vault_core.proofs.unsealing.decipher.Goals as goal

pub returns-clause-plaintext : goal.returns-clause-plaintext
returns-clause-plaintext c =
    take-without_padding _ c.unpad.result c.unpad.ensures.plaintext c.unpad.ensures.none
