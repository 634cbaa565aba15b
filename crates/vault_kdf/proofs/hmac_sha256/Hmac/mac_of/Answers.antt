use Rattle.std.proofs.Common.{append_assoc, rules}
use Rattle.vault_kdf.specs.Hmac.{hmac, inner_key, HasRead}
use Rattle.vault_kdf.proofs.hmac_sha256.Hmac.mac_of.Goals as goal

pub returns : goal.returns
unfolding HasRead hmac
returns c = λ key message stands.
    rw (← append_assoc (inner_key key) message c.args.last.now) (search rules)
