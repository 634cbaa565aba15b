use Rattle.std.specs.Prelude.{◌-◌, ◌≤◌, vec_len}
use Rattle.vault_program_tests.proofs.library.requesting.copies.Given as goal

abbrev pub invariant-loop-alloc : goal.invariant-loop-alloc
invariant-loop-alloc l = vec_len l.copies ≤ l.count

abbrev pub decreases-loop-alloc : goal.decreases-loop-alloc
decreases-loop-alloc l = l.count - vec_len l.copies
