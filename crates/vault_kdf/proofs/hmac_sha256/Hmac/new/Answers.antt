use Rattle.std.proofs.Common.{◌≡◌, ℕ, List, replicate, ap, ◌∙◌, append-nil}
use Rattle.vault_kdf.specs.Hmac.{inner_key, outer_key, xor, HasRead}
use Rattle.vault_kdf.proofs.hmac_sha256.Hmac.new.Goals as goal

pub returns : goal.returns
unfolding HasRead inner_key outer_key
returns c =
    let key : List ℕ = c.args.key.now in
    let inner : c.xor.result ≡ inner_key key =
    c.xor.ensures
    ∙ ap (λ (block : List ℕ). xor block (replicate 64 0x36)) c.padded_key-block.ensures in
    let outer : c.xor-2.result ≡ outer_key key =
    c.xor-2.ensures
    ∙ ap (λ (block : List ℕ). xor block (replicate 64 0x5c)) c.padded_key-block.ensures in
    (rw (append-nil, ← inner) c.new_with_prefix.ensures, rw (← outer) c.new_with_prefix-2.ensures)
