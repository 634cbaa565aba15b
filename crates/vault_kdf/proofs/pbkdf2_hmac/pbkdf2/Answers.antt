use Rattle.vault_kdf.specs.Pbkdf2.{blocks, pbkdf2}
use Rattle.vault_kdf.proofs.pbkdf2_hmac.pbkdf2.Goals as goal

pub returns : goal.returns
unfolding blocks pbkdf2
returns c = c.fill_from.ensures c.args.password.now c.new.ensures
