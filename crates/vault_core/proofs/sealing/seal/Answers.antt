use Rattle.std.proofs.Common.{refl}
use Rattle.vault_core.specs.Sealing.{sealed}
use Rattle.vault_core.proofs.sealing.seal.Goals as goal

pub returns-clause-sealed : goal.returns-clause-sealed
unfolding sealed
returns-clause-sealed c =
    let keys = rw c.as_bytes.ensures.bytes at c.derive-keys.ensures.keys in
    let ciphertext = rw (c.pad-padded_len.ensures.padded, c.new.ensures) at c.ctr_apply.ensures in
    rw (← c.secret.view_is) (rw (c.hmac-tag.ensures, ciphertext, keys) refl)
