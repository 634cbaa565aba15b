use Rattle.std.proofs.Common.{◌∙◌}
use Rattle.vault_kdf.proofs.HmacLemmas.{padded_key_long, padded_key_short}
use Rattle.vault_kdf.proofs.hmac_sha256.padded_key.Goals as goal

pub returns-then-key-gt-HASH_BLOCK_LEN : goal.returns-then-key-gt-HASH_BLOCK_LEN
returns-then-key-gt-HASH_BLOCK_LEN c =
    padded_key_long _ _ c.if-key-gt-HASH_BLOCK_LEN.true
    (c.copy_from_slice.ensures.after ∙ c.digest.ensures)

pub returns-else-key-gt-HASH_BLOCK_LEN : goal.returns-else-key-gt-HASH_BLOCK_LEN
returns-else-key-gt-HASH_BLOCK_LEN c =
    padded_key_short _ _ c.if-key-gt-HASH_BLOCK_LEN.false
    c.copy_from_slice-else-key-gt-HASH_BLOCK_LEN.ensures.after
