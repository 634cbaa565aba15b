use Rattle.std.proofs.Common.{◌++◌, ◌∙◌, replicate}
use borrow.Rule.Slice.PartMut.{put_mid}
use Rattle.vault_aes.proofs.rounds.bytes_of.Goals as goal

pub returns : goal.returns
returns c =
    let first = c.copy_from_slice.ensures.after ∙ c.to_be_bytes.ensures in
    let second = c.copy_from_slice-2.ensures.after ∙ c.to_be_bytes-2.ensures in
    let third = c.copy_from_slice-3.ensures.after ∙ c.to_be_bytes-3.ensures in
    let fourth = c.copy_from_slice-4.ensures.after ∙ c.to_be_bytes-4.ensures in
    (λ i. put_mid 12 4 (put_mid 8 4 (put_mid 4 4 (first i ++ replicate 12 0) (second i)) (third i))
    (fourth i))
