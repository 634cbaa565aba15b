use Rattle.std.proofs.Common.{◌≡◌, length, map, take}
use Rattle.std.specs.List.{list_all}
use Rattle.std.specs.Prelude.{nat_le}
use Rattle.hex.specs.Hex.{is_hex_digit}
use Rattle.vault_text.specs.Hexadecimal.{value_or_invalid}
use Rattle.vault_text.proofs.hexadecimal.digit_values.Given as goal

abbrev pub invariant-loop-place : goal.invariant-loop-place
invariant-loop-place l =
    (length l.values ≡ 40)
    × (take l.place l.values ≡ map value_or_invalid (take l.place l.digits))
    × (list_all is_hex_digit (take l.place l.digits) ≡ nat_le l.seen 15)
