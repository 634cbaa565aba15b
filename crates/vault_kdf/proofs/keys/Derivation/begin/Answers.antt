use Rattle.vault_kdf.proofs.KeysLemmas.{vault_keys-blocks}
use Rattle.vault_kdf.proofs.keys.Derivation.begin.Goals as goal

pub invariant_of-result : goal.invariant_of-result
invariant_of-result c =
    (c.new-keyed.ensures, rw vault_keys-blocks (c.fill_from.ensures _ c.new-keyed.ensures))
