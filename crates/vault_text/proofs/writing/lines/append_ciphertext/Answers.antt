use Rattle.std.proofs.Common.{arith, ◌∙◌, append_assoc, refl}
use Rattle.std.proofs.lemmas.List.{append-nil}
use Rattle.vault_text.proofs.WrittenLemmas.{ciphertext_lines-line, ciphertext_lines-nil}
use Rattle.vault_text.proofs.writing.lines.append_ciphertext.Goals as goal

pub loop-line-init : goal.loop-line-init
loop-line-init c = (omega arith, omega arith, rw (ciphertext_lines-nil, append-nil) refl)

pub loop-line-preserved : goal.loop-line-preserved
loop-line-preserved c =
    let text = c.append_ciphertext_line.ensures.length in
    let next = ciphertext_lines-line c.args.indentation.now c.args.ciphertext.now c.loop-line.line
    c.min-end.result c.loop-line-test.true c.min-end.ensures in (
      omega arith,
      omega arith,
      c.append_ciphertext_line.ensures.text
          ∙ rw (c.loop-line.invariant.2, append_assoc, next) refl,
    )
