use Rattle.vault_kdf.proofs.XorLemmas.{IsXorBelow}
use Rattle.vault_kdf.proofs.xor.xor.Given as goal

abbrev pub invariant-loop-i : goal.invariant-loop-i
invariant-loop-i g l = IsXorBelow l.a l.b l.byte-items l.i
