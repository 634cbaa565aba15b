use Rattle.std.proofs.Common.{◌≡◌, slice_index}
use Rattle.vault_aes.specs.CounterMode.{xor_keystream}
use Rattle.vault_aes.proofs.CounterModeLemmas.{completed}
use Rattle.vault_aes.proofs.counter_mode.xor_keystream.Given as goal

abbrev pub invariant-loop-i : goal.invariant-loop-i
invariant-loop-i l =
    let keystream = slice_index l.keystream in
    completed keystream l.i l.bytes ≡ xor_keystream keystream l.initial.bytes
