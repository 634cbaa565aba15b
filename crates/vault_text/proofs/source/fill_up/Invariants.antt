use Rattle.std.proofs.Common.{length, ◌-◌, ◌≡◌, ◌<◌, ◌≤◌, take}
use Rattle.vault_text.specs.Failures.{u64_max}
use Rattle.vault_text.proofs.source.fill_up.Given as goal

abbrev pub invariant-loop-filled : goal.invariant-loop-filled
invariant-loop-filled g l =
    (l.filled ≤ length l.buf)
    × g.S.Source.gives l.fn.source (take l.filled l.buf) l.source
    × (g.S.Source.failures l.source ≡ g.S.Source.failures l.fn.source)
    × (l.filled ≡ 0 → l.source ≡ l.fn.source)
    × (0 < l.filled → g.S.Source.failures l.fn.source < u64_max)

abbrev pub decreases-loop-filled : goal.decreases-loop-filled
decreases-loop-filled g l = length l.initial.buf - l.filled
