use Rattle.std.proofs.Common.{◌+◌, ◌*◌, ◌++◌, ◌∙◌, add-zero, slice_index, sym}
use Rattle.vault_aes.specs.Cipher.{add_round_key, mix_columns, round, shift_rows, sub_bytes}
use Rattle.vault_aes.specs.Columns.{round_column}
use Rattle.vault_aes.proofs.ColumnsLemmas.{shifted}
use Rattle.vault_aes.proofs.rounds.round.Goals as goal

pub returns : goal.returns
unfolding add_round_key mix_columns round shift_rows sub_bytes
returns c =
    let key = slice_index c.args.words.now in
    let first = 4 * c.args.n in
    (λ i. c.round_column.ensures i ++ c.round_column-2.ensures i ++ c.round_column-3.ensures i
    ++ c.round_column-4.ensures i)
    ∙ (λ i. shifted round_column (c.to_be_bytes.ensures i) (c.to_be_bytes-2.ensures i)
    (c.to_be_bytes-3.ensures i) (c.to_be_bytes-4.ensures i)
    (key (sym (add-zero first) i)) (key (first + 1)) (key (first + 2)) (key (first + 3)))
