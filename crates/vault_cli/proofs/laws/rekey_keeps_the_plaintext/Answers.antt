use Rattle.vault_cli.proofs.theorems.Laws.{rekey_keeps_the_plaintext}
use Rattle.vault_cli.proofs.laws.rekey_keeps_the_plaintext.Goals as goal

pub returns : goal.returns
returns c = rekey_keeps_the_plaintext c.rekeyed_decrypts.ensures
