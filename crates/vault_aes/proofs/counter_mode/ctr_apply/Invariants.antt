use Rattle.std.proofs.Common.{◌≡◌, ◌+◌, ◌*◌, ◌%◌, ◌^◌}
use Rattle.std.specs.Int.{w128, from_be_bytes}
use Rattle.vault_aes.specs.CounterMode.{counter_mode, keystream_byte}
use Rattle.vault_aes.proofs.CounterModeLemmas.{completed}
use Rattle.vault_aes.proofs.counter_mode.ctr_apply.Given as goal

abbrev pub invariant-loop-j : goal.invariant-loop-j
invariant-loop-j l = record {
  counter_is : l.high * 2 ^ 64 + l.low ≡ (from_be_bytes w128 l.iv + l.j) % 2 ^ 128;
  added : completed (keystream_byte l.key l.iv) (16 * l.j) l.bytes
      ≡ counter_mode l.key l.iv l.initial.bytes;
}
