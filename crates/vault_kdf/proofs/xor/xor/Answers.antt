use Rattle.std.proofs.Common.{arith, ◌∙◌, sym}
use Rattle.vault_kdf.proofs.XorLemmas.{IsXorBelow_more, IsXorBelow_all}
use Rattle.vault_kdf.proofs.xor.xor.Goals as goal

pub loop-i-preserved : goal.loop-i-preserved
loop-i-preserved g c =
    IsXorBelow_more c.args.a.now c.args.b.now c.loop-i.byte-items c.loop-i.i (omega arith)
    c.loop-i.invariant

pub returns : goal.returns
returns g c =
    IsXorBelow_all c.args.a.now c.args.b.now c.loop-i.byte-items c.loop-i.i
    (c.told-b ∙ sym c.told-a) (omega arith) c.loop-i.invariant
