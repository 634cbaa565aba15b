use Rattle.std.proofs.Common.{◌-◌, ◌≤◌, vec_len}
use Rattle.std.specs.Prelude.{All}
use Rattle.vault_files.proofs.PathLogLemmas.{HasRoom}
use Rattle.vault_files.proofs.memory.path_log.PathLog.new.Given as goal

abbrev pub invariant-loop-alloc : goal.invariant-loop-alloc
invariant-loop-alloc l = (vec_len l.spare ≤ l.count) × All (HasRoom l.longest) l.spare.items

abbrev pub decreases-loop-alloc : goal.decreases-loop-alloc
decreases-loop-alloc l = l.count - vec_len l.spare
