use Rattle.std.proofs.Common.{◌≡◌, ◌≤◌, ◌-◌, ◌*◌, length, take}
use Rattle.vault_text.specs.Hexadecimal.{unhex}
use Rattle.vault_text.proofs.HexadecimalDigitLemmas.{found_if}
use Rattle.vault_text.proofs.hexadecimal.decode_pairs.Given as goal

abbrev pub invariant-loop-bytes : goal.invariant-loop-bytes
invariant-loop-bytes l =
    (l.done ≤ length l.bytes)
    × (unhex (take (2 * l.done) l.pairs) ≡ found_if l.is_good (take l.done l.bytes))

abbrev pub decreases-loop-bytes : goal.decreases-loop-bytes
decreases-loop-bytes l = length l.bytes - l.done
