use Rattle.std.proofs.Common.{rules}
use Rattle.vault_kdf.specs.Hmac.{hmac, HasRead}
use Rattle.vault_kdf.proofs.hmac_sha256.Hmac.finish.Goals as goal

pub returns : goal.returns
unfolding HasRead hmac
returns c = λ key message stands. search rules
