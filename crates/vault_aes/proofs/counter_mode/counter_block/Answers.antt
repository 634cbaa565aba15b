use Rattle.std.proofs.Common.{◌++◌, ◌∙◌, replicate}
use borrow.Rule.Slice.PartMut.{put_mid}
use Rattle.vault_aes.proofs.WordLemmas.{to_be_bytes-words}
use Rattle.vault_aes.proofs.counter_mode.counter_block.Goals as goal

pub returns : goal.returns
returns c =
    let high = c.copy_from_slice.ensures.after ∙ c.to_be_bytes.ensures in
    let low = c.copy_from_slice-2.ensures.after ∙ c.to_be_bytes-2.ensures in
    (λ i. put_mid 8 8 (high i ++ replicate 8 0) (low i))
    ∙ to_be_bytes-words c.args.high c.args.low c.ranges.low.fits
