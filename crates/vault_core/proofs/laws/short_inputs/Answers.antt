use Rattle.vault_core.proofs.theorems.ShortInputs.{decryption-short, encryption-short}
use Rattle.vault_core.proofs.theorems.ShortInputs.{rekeying-short}
use Rattle.vault_core.proofs.laws.short_inputs.Goals as goal

pub returns : goal.returns
returns c = λ smaller larger input more list index form secrets new salt. (
  λ short. encryption-short smaller larger input more short list index form salt,
  λ short. (
    decryption-short smaller larger input more short secrets,
    rekeying-short smaller larger input more short secrets new salt,
  ),
)
