use Rattle.std.proofs.Common.{◌*◌, ◌-◌, drop, arith, ◌∙◌, append_assoc, length-drop, length-take}
use Rattle.std.proofs.Common.{refl}
use Rattle.std.proofs.lemmas.List.{append-nil}
use Rattle.vault_text.proofs.WrittenLemmas.{encode_lower-nil, body_text-nil, body_text-next}
use Rattle.vault_text.proofs.writing.lines.append_lines.Goals as goal

pub loop-line-init : goal.loop-line-init
loop-line-init c =
    (omega arith, omega arith, rw (encode_lower-nil, body_text-nil, append-nil) refl)

pub loop-line-preserved : goal.loop-line-preserved
loop-line-preserved c =
    let l = c.loop-line in
    let bytes = c.args.bytes.now in
    let text = c.append_line.ensures.length in
    let size = length-take (c.min-end.result - l.line * 40) (drop (l.line * 40) bytes) in
    let rest = length-drop (l.line * 40) bytes in
    let next = body_text-next c.args.indentation.now bytes l.line c.min-end.result
    c.loop-line-test.true c.min-end.ensures in (
      omega arith,
      omega arith,
      c.append_line.ensures.text ∙ rw (l.invariant.2, append_assoc, next) refl,
    )
