use Rattle.std.proofs.Common.{refl, sym, ◌∙◌}
use Rattle.vault_aes.specs.Padding.{padded}
use Rattle.vault_aes.proofs.PaddingLemmas.{IsPadded-padded, padded-once, padded-unique}
use Rattle.vault_aes.proofs.PaddingLemmas.{padded-without_padding, without_padding-padded}
use Rattle.vault_aes.proofs.laws.one_padding.Goals as goal

pub returns : goal.returns
returns c = record {
  exists = IsPadded-padded;
  unique = padded-unique;
  injective = λ one other text is also.
      padded-once one other (sym (padded-unique one text is) ∙ padded-unique other text also);
  unpads_padded = λ plain. without_padding-padded plain (padded plain) refl;
  pads_unpadded = padded-without_padding;
}
