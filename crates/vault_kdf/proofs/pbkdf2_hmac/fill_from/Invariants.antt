use Rattle.std.proofs.Common.{ℕ, List, []}
use Rattle.vault_kdf.specs.Hmac.{HasRead}
use Rattle.vault_kdf.proofs.Pbkdf2Lemmas.{HasBlocks}
use Rattle.vault_kdf.proofs.pbkdf2_hmac.fill_from.Given as goal

abbrev pub invariant-loop-i : goal.invariant-loop-i
invariant-loop-i l = (password : List ℕ) → HasRead l.keyed password []
    → HasBlocks password l.salt l.rounds l.first l.out l.i
