use Rattle.std.proofs.Common.{ℕ, List, length, ◌-◌, ◌≡◌, ◌<◌, ◌≤◌, ◌%◌, ◌⊎◌, ◌++◌, take}
use Rattle.arrayvec.specs.ArrayVec.{array_vec_len}
use Rattle.hex.specs.Hex.{encode_lower}
use Rattle.vault_text.specs.Failures.{u64_max}
use Rattle.vault_text.specs.Written.{hexadecimal_lines}
use Rattle.vault_text.specs.declared.sink.Stage.TheVariants.{Begun}
use Rattle.vault_text.proofs.writing.body.put_ciphertext.Given as goal

abbrev pub invariant-loop-done : goal.invariant-loop-done
invariant-loop-done g l =
    (l.done ≤ length l.ciphertext)
    × (l.done % 4060 ≡ 0)
    × (array_vec_len l.text ≤ 1621)
    × (g.K.Sink.stage l.sink ≡ Begun)
    × (g.K.Sink.failures l.sink ≡ g.K.Sink.failures l.fn.sink)
    × ((0 < array_vec_len l.text) ⊎ (g.K.Sink.failures l.sink < u64_max))
    × ((taken : List ℕ) × g.K.Sink.takes l.fn.sink taken l.sink
    × (taken ++ l.text.items
    ≡ l.fn.text.items ++ hexadecimal_lines l.indentation (encode_lower (take l.done l.ciphertext))))

abbrev pub decreases-loop-done : goal.decreases-loop-done
decreases-loop-done g l = length l.ciphertext - l.done
