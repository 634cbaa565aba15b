use Rattle.std.proofs.Common.{◌≡◌, ◌*◌, take}
use Rattle.vault_text.specs.Hexadecimal.{unhex}
use Rattle.vault_text.proofs.HexadecimalDigitLemmas.{found_if}
use Rattle.vault_text.proofs.hexadecimal.decode_one_by_one.Given as goal

abbrev pub invariant-loop-place : goal.invariant-loop-place
invariant-loop-place l =
    unhex (take (2 * l.place) l.pairs) ≡ found_if l.is_good (take l.place l.bytes)
