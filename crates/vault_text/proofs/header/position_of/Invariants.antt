use Rattle.std.proofs.Common.{◌≡◌, ◌+◌, ◌-◌, ◌≤◌, ◌==◌, length, drop}
use Rattle.std.specs.List.{position_or_len}
use Rattle.vault_text.proofs.header.position_of.Given as goal

abbrev pub invariant-loop-place : goal.invariant-loop-place
invariant-loop-place l =
    (l.place ≤ length l.bytes)
    × (l.place + position_or_len (λ b. b == l.byte) (drop l.place l.bytes)
    ≡ position_or_len (λ b. b == l.byte) l.bytes)

abbrev pub decreases-loop-place : goal.decreases-loop-place
decreases-loop-place l = length l.bytes - l.place
