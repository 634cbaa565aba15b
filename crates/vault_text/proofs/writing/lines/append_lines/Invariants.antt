use Rattle.std.proofs.Common.{length, ◌-◌, ◌+◌, ◌*◌, ◌≡◌, ◌≤◌, ◌++◌, take}
use Rattle.arrayvec.specs.ArrayVec.{array_vec_len}
use Rattle.vault_text.specs.Written.{hexadecimal_lines}
use Rattle.vault_text.proofs.writing.lines.append_lines.Given as goal

abbrev pub invariant-loop-line : goal.invariant-loop-line
invariant-loop-line l =
    (l.line * 40 ≤ length l.bytes + 39)
    × (array_vec_len l.text ≤ array_vec_len l.fn.text + l.line * 91)
    × (l.text.items
    ≡ l.fn.text.items ++ hexadecimal_lines l.indentation (take (l.line * 40) l.bytes))

abbrev pub decreases-loop-line : goal.decreases-loop-line
decreases-loop-line l = length l.bytes + 40 - l.line * 40
