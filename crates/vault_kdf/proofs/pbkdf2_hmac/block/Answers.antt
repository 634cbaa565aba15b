use Rattle.std.proofs.Common.{ℕ, List, [], ◌++◌, ap, ◌∙◌, arith, rules}
use Rattle.vault_kdf.specs.Hmac.{hmac, HasRead}
use Rattle.vault_kdf.proofs.Pbkdf2Lemmas.{IsAfterRounds_one, IsAfterRounds_more}
use Rattle.vault_kdf.proofs.Pbkdf2Lemmas.{IsAfterRounds-block}
use Rattle.vault_kdf.proofs.pbkdf2_hmac.block.Goals as goal

pub loop-init : goal.loop-init
loop-init c = λ password stands.
    let salt : List ℕ = c.args.salt.now in
    let copied : HasRead c.unwrap-first.result password [] = search rules in
    let tag = c.finish-iterate.ensures password (salt ++ c.to_be_bytes.result)
    (c.update-2.ensures password salt (c.update.ensures password [] copied)) in
    IsAfterRounds_one password _ _
    (tag ∙ ap (λ (index : List ℕ). hmac password (salt ++ index)) c.to_be_bytes.ensures)

pub loop-preserved : goal.loop-preserved
loop-preserved c = λ password stands.
    IsAfterRounds_more password _ c.loop.iterate c.loop.sum _ _ c.loop.counter c.loop.auto.counter
    (c.loop.invariant password stands)
    (c.mac_of-iterate.ensures password [] stands) c.xor-sum.ensures

pub returns : goal.returns
returns c = λ password stands.
    IsAfterRounds-block password c.args.salt.now c.args.rounds c.args.index c.loop.iterate
    c.loop.sum c.loop.counter (c.loop.invariant password stands) (omega arith)
