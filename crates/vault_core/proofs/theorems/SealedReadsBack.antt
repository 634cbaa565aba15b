-- What was sealed and written is read.
use Rattle.std.proofs.Common.{◌≤◌, length, ap}
use Rattle.std.specs.Result.{result_map_both}
use Rattle.vault_aes.proofs.CounterModeLemmas.{length-counter_mode}
use Rattle.vault_aes.proofs.PaddingLemmas.{length-padded}
use Rattle.vault_kdf.proofs.HmacLemmas.{hmac-bytes, length-hmac}
use Rattle.vault_text.specs.Envelope.{Payload}
use Rattle.vault_text.specs.Limits.{ciphertext_limit}
use Rattle.vault_text.proofs.theorems.WrittenReadsBack.{written_reads_back}
use Rattle.vault_fault.specs.Fault.{of_text}
use Rattle.vault_core.specs.Laws.{SealedReadsBack}
use Rattle.vault_core.specs.Sealing.{sealed, text_in}
use Rattle.vault_core.proofs.SealingByteLemmas.{counter_mode-bytes, padded-bytes}

pub sealed_reads_back : SealedReadsBack
unfolding sealed text_in
sealed_reads_back limit sealing salt plain label salt_bytes salt_fits plain_bytes fits =
    let vault : Payload = sealed sealing salt plain in
    let ciphertext = counter_mode-bytes _ _ _ (padded-bytes plain plain_bytes) in
    let room : length vault.ciphertext ≤ ciphertext_limit limit =
    rw (length-counter_mode, length-padded plain) fits in
    ap (result_map_both (λ payload. payload) of_text)
    (written_reads_back limit vault.label vault.salt vault.tag vault.ciphertext
    label salt_bytes salt_fits (hmac-bytes _ _) (length-hmac _ _) ciphertext room)
