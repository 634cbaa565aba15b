use Rattle.std.proofs.Common.{◌≡◌, drop}
use Rattle.vault_files.specs.Memory.{file_at}
use Rattle.vault_files.proofs.memory.store.find.Given as goal

abbrev pub invariant-loop-entry : goal.invariant-loop-entry
invariant-loop-entry l = file_at (drop l.entry-index l.entries) l.path ≡ file_at l.entries l.path
