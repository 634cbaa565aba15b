use Rattle.std.proofs.Common.{ap, ◌∙◌}
use Rattle.vault_kdf.specs.declared.keys.Keys.{Keys}
use Rattle.vault_kdf.proofs.KeysLemmas.{vault_keys-blocks}
use Rattle.vault_kdf.proofs.keys.Derivation.finish.Goals as goal

pub returns : goal.returns
returns c =
    let inside = c.self.inside in
    let (stands, mac) = c.self.invariant in
    let keys = vault_keys-blocks inside.password.now inside.salt.now in
    rw (
      c.fill_from.ensures _ stands,
      mac ∙ ap (λ (k : Keys). k.mac) keys,
      c.fill_from-2.ensures _ stands,
      ← keys,
    )
    c.self.view_is
