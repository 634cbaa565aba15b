use Rattle.std.proofs.Common.{ℕ, List, [], ◌++◌}
use Rattle.std.specs.Int.{to_be_bytes, w32}
use Rattle.vault_kdf.specs.Hmac.{HasRead}
use Rattle.vault_kdf.proofs.Pbkdf2Lemmas.{IsAfterRounds}
use Rattle.vault_kdf.proofs.pbkdf2_hmac.block.Given as goal

abbrev pub invariant-loop : goal.invariant-loop
invariant-loop l = (password : List ℕ) → HasRead l.keyed password []
    → IsAfterRounds password (l.salt ++ to_be_bytes w32 l.index) l.iterate l.sum l.counter
