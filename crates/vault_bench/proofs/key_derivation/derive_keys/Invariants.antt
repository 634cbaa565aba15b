use Rattle.std.proofs.Common.{◌≡◌}
use Rattle.vault_bench.proofs.key_derivation.derive_keys.Given as goal

abbrev pub invariant-loop : goal.invariant-loop
invariant-loop l = l.meter ≡ l.counter
