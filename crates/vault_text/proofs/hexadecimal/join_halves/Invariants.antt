use Rattle.std.proofs.Common.{◌≡◌, ◌*◌, ℕ, List, map, take, true, Some}
use Rattle.std.specs.List.{list_all}
use Rattle.hex.specs.Hex.{is_hex_digit}
use Rattle.vault_text.specs.Hexadecimal.{unhex, value_or_invalid}
use Rattle.vault_text.proofs.hexadecimal.join_halves.Given as goal

abbrev pub invariant-loop-place : goal.invariant-loop-place
invariant-loop-place l =
    (digits : List ℕ) → l.values ≡ map value_or_invalid digits
    → list_all is_hex_digit digits ≡ true
    → unhex (take (2 * l.place) digits) ≡ Some (take l.place l.bytes)
