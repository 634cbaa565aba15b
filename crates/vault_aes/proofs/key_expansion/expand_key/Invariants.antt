use Rattle.std.proofs.Common.{◌≡◌, ◌-◌, length, take}
use Rattle.vault_aes.specs.KeyExpansion.{first_words}
use Rattle.vault_aes.proofs.key_expansion.expand_key.Given as goal

abbrev pub invariant-loop-i : goal.invariant-loop-i
invariant-loop-i l = (length l.words ≡ 60) × (take l.i l.words ≡ first_words l.key (l.i - 8))
