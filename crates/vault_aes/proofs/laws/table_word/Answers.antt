use Rattle.std.proofs.Common.{◌∙◌, [], ◌∷◌}
use Rattle.vault_aes.specs.Field.{mul}
use Rattle.vault_aes.specs.SubstitutionBox.{s_box}
use Rattle.vault_aes.proofs.TableLemmas.{mul-1-s_box}
use Rattle.vault_aes.proofs.laws.table_word.Goals as goal

pub returns : goal.returns
returns c =
    let x = c.args.x in
    let unit = mul-1-s_box x c.ranges.x.fits in
    c.to_be_bytes.ensures ∙ c.te0.ensures
    ∙ (λ i. mul 2 (s_box x) ∷ unit i ∷ unit i ∷ mul 3 (s_box x) ∷ [])
