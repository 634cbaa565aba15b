use Rattle.std.proofs.Common.{◌-◌, ◌≤◌, vec_len}
use Rattle.std.specs.Prelude.{All}
use Rattle.vault_cli.proofs.FileContentsLemmas.{IsLong}
use Rattle.vault_cli.proofs.reserving.password_buffers.Given as goal

abbrev pub invariant-loop-alloc : goal.invariant-loop-alloc
invariant-loop-alloc l =
    (vec_len l.buffers ≤ l.count)
    × All IsLong l.buffers.items

abbrev pub decreases-loop-alloc : goal.decreases-loop-alloc
decreases-loop-alloc l = l.count - vec_len l.buffers
