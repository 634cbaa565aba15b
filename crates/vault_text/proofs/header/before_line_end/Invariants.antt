use Rattle.std.proofs.Common.{◌≡◌, ◌+◌, ◌-◌, ◌≤◌, length, drop}
use Rattle.std.specs.List.{position_or_len}
use Rattle.vault_text.specs.Header.{is_line_end}
use Rattle.vault_text.proofs.header.before_line_end.Given as goal

abbrev pub invariant-loop-end : goal.invariant-loop-end
invariant-loop-end l =
    (l.end ≤ length l.input)
    × (l.end + position_or_len is_line_end (drop l.end l.input)
    ≡ position_or_len is_line_end l.input)

abbrev pub decreases-loop-end : goal.decreases-loop-end
decreases-loop-end l = length l.input - l.end
