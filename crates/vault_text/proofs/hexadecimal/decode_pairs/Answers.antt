use Rattle.std.proofs.Common.{◌≡◌, ◌+◌, ◌-◌, ◌*◌, ◌≤◌, ℕ, [], length, arith}
use Rattle.std.proofs.Common.{length-drop, length-take}
use Rattle.std.proofs.lemmas.List.{take_all}
use Rattle.vault_text.proofs.HexadecimalBlockLemmas.{pieces_next}
use Rattle.vault_text.proofs.HexadecimalLemmas.{unhex-spelled_bytes}
use Rattle.vault_text.proofs.SourceLemmas.{length-part_written}
use Rattle.vault_text.proofs.hexadecimal.decode_pairs.Goals as goal
use borrow.Rule.Slice.PartMut.{put_mid}

pub loop-bytes-init : goal.loop-bytes-init
loop-bytes-init c = (omega arith, unhex-spelled_bytes [])

pub loop-bytes-preserved : goal.loop-bytes-preserved
loop-bytes-preserved c =
    let l = c.loop-bytes in
    let end = l.done + 20 in
    let piece = c.decode_block-is_good.new.bytes in
    let len : length piece ≡ end - l.done =
    omega (arith, c.loop-bytes-test.true, length-take {A = ℕ}, length-drop {A = ℕ}) in
    let inside : l.done + (end - l.done) ≤ length l.bytes = omega (arith, c.loop-bytes-test.true) in
    let same = length-part_written l.done (end - l.done) l.bytes piece inside len in (
      omega (arith, same, inside),
      pieces_next c.args.pairs.now l.bytes piece l.done end l.is_good c.decode_block-is_good.result
          l.invariant.0 len (omega arith) l.invariant.1 c.decode_block-is_good.ensures
          (omega (arith, c.requires, l.auto.bytes)),
    )

pub returns : goal.returns
returns c =
    let l = c.loop-bytes in
    let pairs = c.args.pairs.now in
    let end = length l.bytes in
    let piece = c.decode_one_by_one.new.bytes in
    let size : length pairs ≡ 2 * end = omega (arith, c.requires, l.auto.bytes) in
    let len : length piece ≡ end - l.done =
    omega (arith, c.decode_one_by_one.auto.bytes, length-take {A = ℕ}, length-drop {A = ℕ}) in
    let inside : l.done + (end - l.done) ≤ end = omega (arith, l.invariant.0) in
    let same = length-part_written l.done (end - l.done) l.bytes piece inside len in
    let whole = pieces_next pairs l.bytes piece l.done end l.is_good c.decode_one_by_one.result
    l.invariant.0 len l.invariant.0 l.invariant.1 (rw size at c.decode_one_by_one.ensures) size in
    rw (
      take_all (2 * end) pairs (omega arith),
      take_all end (put_mid l.done (end - l.done) l.bytes piece) (omega arith),
    ) at whole
