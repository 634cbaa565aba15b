use Rattle.std.proofs.Common.{ℕ, ◌+◌, ◌*◌, ◌++◌, add-zero, refl, slice_index}
use Rattle.vault_aes.specs.Cipher.{add_round_key}
use Rattle.vault_aes.proofs.WordLemmas.{to_be_bytes-bit_xor}
use Rattle.vault_aes.proofs.rounds.add_round_key.Goals as goal

pub returns : goal.returns
unfolding add_round_key
returns c =
    let first = 4 * c.args.n in
    let column = λ (r k : ℕ).
    to_be_bytes-bit_xor (slice_index c.args.state r) (slice_index c.args.words.now k) refl refl in
    rw (add-zero first)
    (λ i. column 0 first i ++ column 1 (first + 1) i ++ column 2 (first + 2) i
    ++ column 3 (first + 3) i)
