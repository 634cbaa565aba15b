use Rattle.vault_cli.proofs.theorems.Laws.{encrypt_then_decrypt}
use Rattle.vault_cli.proofs.laws.encrypt_then_decrypt.Goals as goal

pub returns : goal.returns
returns c = encrypt_then_decrypt c.encrypted_decrypts.ensures
