use Rattle.vault_cli.proofs.theorems.ProgramLaws.{encrypt_then_decrypt}
use Rattle.vault_cli.proofs.laws.program_encrypts_then_decrypts.Goals as goal

pub returns : goal.returns
returns c = encrypt_then_decrypt c.settled_requests.ensures c.encrypt_then_decrypt.ensures
