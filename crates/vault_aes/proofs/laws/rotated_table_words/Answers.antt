use Rattle.std.proofs.Common.{◌∙◌, [], ◌∷◌}
use Rattle.vault_aes.specs.Field.{mul}
use Rattle.vault_aes.specs.SubstitutionBox.{s_box}
use Rattle.vault_aes.proofs.TableLemmas.{mul-1-s_box}
use Rattle.vault_aes.proofs.laws.rotated_table_words.Goals as goal

pub returns : goal.returns
returns c =
    let s = s_box c.args.x in
    let unit = mul-1-s_box c.args.x c.ranges.x.fits in
    (λ i. (c.to_be_bytes.ensures ∙ c.te1.ensures) i ∷ (c.to_be_bytes-2.ensures ∙ c.te2.ensures) i
    ∷ (c.to_be_bytes-3.ensures ∙ c.te3.ensures) i ∷ [])
    ∙ (λ i. (mul 3 s ∷ mul 2 s ∷ unit i ∷ unit i ∷ [])
    ∷ (unit i ∷ mul 3 s ∷ mul 2 s ∷ unit i ∷ [])
    ∷ (unit i ∷ unit i ∷ mul 3 s ∷ mul 2 s ∷ []) ∷ [])
