use Rattle.std.proofs.Common.{◌*◌, [], arith}
use Rattle.std.proofs.lemmas.List.{take_all}
use Rattle.vault_text.proofs.HexadecimalDigitLemmas.{decoded_next}
use Rattle.vault_text.proofs.HexadecimalLemmas.{unhex-spelled_bytes}
use Rattle.vault_text.proofs.hexadecimal.decode_one_by_one.Goals as goal

pub loop-place-init : goal.loop-place-init
loop-place-init c = unhex-spelled_bytes []

pub loop-place-preserved : goal.loop-place-preserved
loop-place-preserved c =
    let l = c.loop-place in
    let next = decoded_next c.args.pairs.now l.bytes l.place l.is_good
    (omega (arith, c.requires, l.auto.bytes)) (omega (arith, l.auto.bytes, c.loop-place-test.true))
    l.invariant in
    rw (
      c.is_some.ensures,
      c.is_some-in-loop-place.ensures,
      c.unwrap_or.ensures,
      c.unwrap_or-in-loop-place.ensures,
      c.digit_value-high.ensures,
      c.digit_value-low.ensures,
    ) next

pub returns : goal.returns
returns c =
    let l = c.loop-place in
    let pairs = take_all (2 * l.place) c.args.pairs.now
    (omega (arith, c.requires, l.auto.bytes, c.loop-place-test.false)) in
    let bytes = take_all l.place l.bytes (omega (arith, l.auto.bytes, c.loop-place-test.false)) in
    rw (pairs, bytes) at l.invariant
