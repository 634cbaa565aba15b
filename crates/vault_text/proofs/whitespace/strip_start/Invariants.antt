use Rattle.std.proofs.Common.{◌≡◌, ◌+◌, ◌-◌, ◌≤◌, length, drop}
use Rattle.std.specs.List.{prefix_len}
use Rattle.vault_text.specs.Whitespace.{is_whitespace}
use Rattle.vault_text.proofs.whitespace.strip_start.Given as goal

abbrev pub invariant-loop-start : goal.invariant-loop-start
invariant-loop-start l =
    (l.start ≤ length l.bytes)
    × (l.start + prefix_len is_whitespace (drop l.start l.bytes) ≡ prefix_len is_whitespace l.bytes)

abbrev pub decreases-loop-start : goal.decreases-loop-start
decreases-loop-start l = length l.bytes - l.start
