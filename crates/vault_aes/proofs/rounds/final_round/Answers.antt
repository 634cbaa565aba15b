use Rattle.std.proofs.Common.{◌++◌, ◌∙◌, slice_index}
use Rattle.vault_aes.specs.Cipher.{add_round_key, shift_rows, sub_bytes}
use Rattle.vault_aes.specs.Columns.{final_column}
use Rattle.vault_aes.proofs.ColumnsLemmas.{shifted}
use Rattle.vault_aes.proofs.rounds.final_round.Goals as goal

pub returns : goal.returns
unfolding add_round_key shift_rows sub_bytes
returns c =
    let key = slice_index c.args.words.now in
    (λ i. c.final_column.ensures i ++ c.final_column-2.ensures i ++ c.final_column-3.ensures i
    ++ c.final_column-4.ensures i)
    ∙ (λ i. shifted final_column (c.to_be_bytes.ensures i) (c.to_be_bytes-2.ensures i)
    (c.to_be_bytes-3.ensures i) (c.to_be_bytes-4.ensures i)
    (key 56) (key 57) (key 58) (key 59))
