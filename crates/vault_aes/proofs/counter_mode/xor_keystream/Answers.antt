use Rattle.std.proofs.Common.{◌∙◌, arith, slice_index, sym}
use Rattle.vault_aes.proofs.CounterModeLemmas.{completed-all, completed-more, completed-none}
use Rattle.vault_aes.proofs.counter_mode.xor_keystream.Goals as goal

pub loop-i-init : goal.loop-i-init
loop-i-init c = completed-none (slice_index c.args.keystream.now) c.args.bytes.now

pub loop-i-preserved : goal.loop-i-preserved
loop-i-preserved c =
    completed-more (slice_index c.args.keystream.now) c.loop-i.i c.loop-i.bytes (omega arith)
    ∙ c.loop-i.invariant

pub returns : goal.returns
returns c =
    sym (completed-all (slice_index c.args.keystream.now) c.loop-i.i c.loop-i.bytes (omega arith))
    ∙ c.loop-i.invariant
