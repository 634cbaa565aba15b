use Rattle.std.proofs.Common.{length, ◌-◌, ◌≡◌, ◌<◌, ◌≤◌, take}
use Rattle.vault_text.specs.Failures.{u64_max}
use Rattle.vault_text.specs.declared.sink.Stage.TheVariants.{Begun}
use Rattle.vault_text.proofs.sink.put_all.Given as goal

abbrev pub invariant-loop-done : goal.invariant-loop-done
invariant-loop-done g l =
    (l.done ≤ length l.bytes)
    × g.K.Sink.takes l.fn.sink (take l.done l.bytes) l.sink
    × (g.K.Sink.stage l.sink ≡ Begun)
    × (g.K.Sink.failures l.sink ≡ g.K.Sink.failures l.fn.sink)
    × (0 < l.done → g.K.Sink.failures l.fn.sink < u64_max)

abbrev pub decreases-loop-done : goal.decreases-loop-done
decreases-loop-done g l = length l.bytes - l.done
