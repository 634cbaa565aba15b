use Rattle.std.proofs.Common.{length, ◌-◌, ◌+◌, ◌*◌, ◌≡◌, ◌≤◌, ◌++◌, take}
use Rattle.arrayvec.specs.ArrayVec.{array_vec_len}
use Rattle.hex.specs.Hex.{encode_lower}
use Rattle.vault_text.specs.Written.{hexadecimal_lines}
use Rattle.vault_text.proofs.writing.lines.append_ciphertext.Given as goal

abbrev pub invariant-loop-line : goal.invariant-loop-line
invariant-loop-line l =
    (l.line * 20 ≤ length l.ciphertext + 19)
    × (array_vec_len l.text ≤ array_vec_len l.fn.text + l.line * 91)
    × (l.text.items
    ≡ l.fn.text.items
    ++ hexadecimal_lines l.indentation (encode_lower (take (l.line * 20) l.ciphertext)))

abbrev pub decreases-loop-line : goal.decreases-loop-line
decreases-loop-line l = length l.ciphertext + 20 - l.line * 20
