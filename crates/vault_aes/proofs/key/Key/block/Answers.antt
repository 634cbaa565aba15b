use Rattle.std.proofs.Common.{List, ℕ, ◌∙◌, ap, refl}
use Rattle.vault_aes.specs.Cipher.{add_round_key, cipher, rounds, shift_rows, sub_bytes}
use Rattle.vault_aes.proofs.ColumnsLemmas.{rounds-more}
use Rattle.vault_aes.proofs.key.Key.block.Goals as goal

pub returns : goal.returns
unfolding cipher rounds
returns c =
    let words = c.self.inside.words in
    let block = c.args.block.now in
    let start = c.add_round_key-state.ensures ∙ ap (add_round_key words 0) c.columns_of.ensures in
    let four = c.four_rounds-state.ensures block start in
    let eight = c.four_rounds-state-2.ensures block four in
    let twelve = c.four_rounds-state-3.ensures block eight in
    let thirteen = rounds-more words block 12 13 refl twelve c.round-state.ensures in
    c.bytes_of.ensures ∙ c.final_round.ensures
    ∙ ap (λ (s : List ℕ). add_round_key words 14 (shift_rows (sub_bytes s))) thirteen
    ∙ (λ i. cipher (c.self.view_is i) block)
