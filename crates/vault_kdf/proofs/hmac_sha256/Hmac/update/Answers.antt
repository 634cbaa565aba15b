use Rattle.std.proofs.Common.{◌++◌, append_assoc}
use Rattle.vault_kdf.specs.Hmac.{inner_key, HasRead}
use Rattle.vault_kdf.proofs.hmac_sha256.Hmac.update.Goals as goal

pub returns : goal.returns
unfolding HasRead
returns c = λ key message stands. (
  rw (← append_assoc (inner_key key) message c.args.piece.now)
      (c.update.ensures (inner_key key ++ message) stands.0),
  stands.1,
)
