-- A short input gets one answer under a limit and under every larger one.
use Rattle.std.proofs.Common.{◌≡◌, ℕ, ◌*◌, ◌≤◌, List, length, arith, ap, refl}
use Rattle.std.specs.Result.{result_map_both}
use Rattle.std.proofs.lemmas.Bool.{le-ltb}
use Rattle.vault_text.proofs.theorems.LargerLimits.{short_inputs}
use Rattle.vault_core.specs.Decryption.{decryption, payload_of}
use Rattle.vault_core.specs.Encryption.{encryption}
use Rattle.vault_fault.specs.Fault.{of_text}
use Rattle.vault_core.specs.Form.{Form}
use Rattle.vault_core.specs.Rekeying.{rekeying}
use Rattle.vault_core.specs.Secrets.{Secret, SecretList}

module _ (smaller larger : ℕ) (input : List ℕ) (more : smaller ≤ larger) where
  pub encryption-short : length input ≤ smaller
      → (secrets : List Secret) (index : ℕ) (form : Form) (salt : List ℕ)
      → encryption larger secrets index form salt input
      ≡ encryption smaller secrets index form salt input
  unfolding encryption
  encryption-short short secrets index form salt =
      rw (le-ltb smaller _ short, le-ltb larger (length input) (omega arith)) refl

module _ (smaller larger : ℕ) (input : List ℕ) (more : smaller ≤ larger)
    (short : length input ≤ 4 * smaller) where
  payload_of-short : payload_of larger input ≡ payload_of smaller input
  payload_of-short =
      ap (result_map_both (λ payload. payload) of_text)
      (short_inputs smaller larger input short more)

  pub decryption-short : (secrets : SecretList)
      → decryption larger secrets input ≡ decryption smaller secrets input
  unfolding decryption
  decryption-short secrets = rw payload_of-short refl

  pub rekeying-short : (secrets : SecretList) (new : Secret) (salt : List ℕ)
      → rekeying larger secrets new salt input ≡ rekeying smaller secrets new salt input
  unfolding rekeying
  rekeying-short secrets new salt = rw payload_of-short refl
