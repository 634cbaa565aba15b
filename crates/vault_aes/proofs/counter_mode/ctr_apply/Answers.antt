use Rattle.std.proofs.Common.{◌≡◌, ◌+◌, ◌-◌, ◌*◌, ◌/◌, ◌≤◌, ◌∙◌, arith, length, length-append}
use Rattle.std.proofs.Common.{length-drop, length-take, sym}
use Rattle.vault_aes.specs.CounterMode.{counter_mode, keystream_byte}
use Rattle.vault_aes.proofs.CounterModeLemmas.{completed-all, completed-block, completed-none}
use Rattle.vault_aes.proofs.counter_mode.ctr_apply.Goals as goal
use borrow.Rule.Slice.PartMut.{put_mid}

pub loop-j-init : goal.loop-j-init
unfolding counter_mode
loop-j-init c = record {
  counter_is = omega (arith, c.from_be_bytes-initial.ensures, c.from_be_bytes-initial.type_inv);
  added = completed-none (keystream_byte c.args.key.now c.args.iv.now) c.args.bytes.now;
}

pub loop-j-preserved : goal.loop-j-preserved
loop-j-preserved c =
    let j = c.loop-j.j in
    record {
      counter_is = omega (arith, c.loop-j.invariant.counter_is, c.next_counter.ensures);
      added =
          completed-block c.args.key.now c.args.iv.now j (16 * (j + 1)) c.loop-j.bytes
          (omega arith) (omega arith) (omega arith) c.loop-j.invariant.counter_is
          c.counter_block.ensures c.block-keystream.ensures c.xor_keystream.ensures
          ∙ c.loop-j.invariant.added;
    }

pub returns-then-bytes-ne0 : goal.returns-then-bytes-ne0
returns-then-bytes-ne0 c =
    let words = c.args.key.now in
    let iv = c.args.iv.now in
    let j = length c.args.bytes.now / 16 in
    let all : c.loop-j.j ≡ j = omega arith in
    let size = length c.loop-j.bytes in
    let whole : length (put_mid (16 * j) (size - 16 * j) c.loop-j.bytes
    c.xor_keystream-then-bytes-ne0.new.bytes) ≤ size =
    simp (length-append, length-drop, length-take) (omega arith) in
    sym (completed-all (keystream_byte words iv) size _ whole)
    ∙ completed-block words iv j size c.loop-j.bytes (omega arith) (omega arith) (omega arith)
    (rw all at c.loop-j.invariant.counter_is) c.counter_block-then-bytes-ne0.ensures
    c.block-keystream-then-bytes-ne0.ensures c.xor_keystream-then-bytes-ne0.ensures
    ∙ rw all at c.loop-j.invariant.added

pub returns-else-bytes-ne0 : goal.returns-else-bytes-ne0
returns-else-bytes-ne0 c =
    sym (completed-all (keystream_byte c.args.key.now c.args.iv.now) (16 * c.loop-j.j)
    c.loop-j.bytes (omega arith))
    ∙ c.loop-j.invariant.added
