use Rattle.std.proofs.Common.{◌≡◌, ◌<◌, ◌≤◌, ◌+◌, ◌-◌, length}
use Rattle.vault_text.specs.Failures.{u64_max}
use Rattle.vault_text.specs.Limits.{limit_of}
use Rattle.vault_core.proofs.input.read_plaintext.Given as goal

abbrev pub invariant-loop-buffer : goal.invariant-loop-buffer
invariant-loop-buffer g l = record {
  gives : g.S.Source.gives l.fn.src l.memory.bytes l.src;
  limit : l.memory.limit ≡ l.fn.memory.limit;
  bound : length l.memory.bytes ≤ limit_of l.fn.memory.limit + 1;
  failures : g.S.Source.failures l.src ≡ g.S.Source.failures l.fn.src;
  full : 0 < length l.memory.bytes → g.S.Source.failures l.fn.src < u64_max;
}

abbrev pub decreases-loop-buffer : goal.decreases-loop-buffer
decreases-loop-buffer g l = l.memory.limit - length l.memory.bytes
