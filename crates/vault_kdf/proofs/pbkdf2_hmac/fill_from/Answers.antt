use Rattle.std.proofs.Common.{◌≡◌, ℕ, length, take, ◌∙◌, ap, arith, rules}
use Rattle.std.specs.Int.{div_ceil}
use Rattle.std.specs.List.{concat}
use Rattle.vault_kdf.proofs.Pbkdf2Lemmas.{HasBlocks_none, HasBlocks_more, HasBlocks_all}
use Rattle.vault_kdf.proofs.Pbkdf2Lemmas.{blocks_from}
use Rattle.vault_kdf.proofs.pbkdf2_hmac.fill_from.Goals as goal

pub loop-i-init : goal.loop-i-init
loop-i-init c = λ password stands.
    HasBlocks_none password c.args.salt.now c.args.rounds c.args.first c.args.out.now

pub loop-i-preserved : goal.loop-i-preserved
loop-i-preserved c = λ password stands.
    let len : length c.block-bytes.result ≡ 32 = search rules in
    HasBlocks_more password c.args.salt.now c.args.rounds c.args.first c.loop-i.out
    c.block-bytes.result c.copy_from_slice.new.self c.loop-i.i c.min-end.result
    c.requires.rounds (c.loop-i.invariant password stands) (omega arith)
    (c.block-bytes.ensures password stands) len c.min-end.ensures
    c.copy_from_slice.ensures.after

pub returns : goal.returns
returns c = λ password stands.
    HasBlocks_all password c.args.salt.now c.args.rounds c.args.first c.loop-i.out c.loop-i.i
    (c.loop-i.invariant password stands) (omega arith)
    ∙ ap (λ (n : ℕ). take n
    (concat (blocks_from password c.args.salt.now c.args.rounds c.args.first (div_ceil n 32))))
    c.loop-i.auto.out
