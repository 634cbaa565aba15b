-- What was encrypted or rekeyed decrypts.
use Rattle.std.proofs.Common.{ℕ, ◌≤◌, List, [], ◌∷◌, length, Ok, refl, ap, sym, ◌∙◌, arith}
use Rattle.std.proofs.lemmas.Result.{MatchResult-at_ok}
use Rattle.vault_text.specs.Limits.{ciphertext_limit}
use Rattle.vault_core.specs.Decryption.{decryption}
use Rattle.vault_core.specs.Form.{Envelope}
use Rattle.vault_core.specs.Laws.{EncryptedDecrypts, IsTriedFirst, RekeyedDecrypts}
use Rattle.vault_aes.specs.Padding.{padded_length}
use Rattle.vault_core.specs.Ready.{Ready}
use Rattle.vault_core.specs.Sealing.{sealed}
use Rattle.vault_core.specs.Secrets.{Secret, SecretList, secret_at, tried_after, tried_order}
use Rattle.vault_fault.specs.declared.label_rule.LabelRule.{LabelRule}
use Rattle.vault_core.proofs.DecryptionLemmas.{decryption-of}
use Rattle.vault_core.proofs.EncryptionLemmas.{encryption-answers}
use Rattle.vault_core.proofs.RekeyingLemmas.{rekeying-answers}
use Rattle.vault_core.proofs.theorems.SealedUnseals.{bytes_eq-same, sealed_unseals}
use Rattle.vault_core.proofs.theorems.SealedReadsBack.{sealed_reads_back}

-- ---- encrypting

pub encrypted_decrypts : EncryptedDecrypts
encrypted_decrypts limit list index salt input ready label salt_bytes salt_fits bytes encrypted
    secrets tried =
    let sealing : Secret = secret_at index list in
    let made = MatchResult-at_ok _ _ ready encrypted
    (encryption-answers limit list index Envelope salt input) in
    let fits : padded_length (length input) ≤ ciphertext_limit limit = omega (arith, made.0) in
    let read = sealed_reads_back limit sealing salt input label salt_bytes salt_fits bytes fits in
    ap (λ (one : Ready). decryption limit secrets one.output) made.1
    ∙ decryption-of limit secrets _ (Ok (sealed sealing salt input)) (sym read)
    ∙ sealed_unseals secrets sealing salt input tried

-- ---- rekeying

-- a list of one secret tries it first for its own label
alone : (new : Secret) (rule : LabelRule)
    → IsTriedFirst (record { secrets = new ∷ []; rule = rule }) new
unfolding tried_order
alone new rule =
    (new, tried_after rule new.label (new ∷ []), rw (bytes_eq-same new.label) refl, refl)

pub rekeyed_decrypts : RekeyedDecrypts
rekeyed_decrypts limit secrets new salt input ready label salt_bytes salt_fits rekeyed =
    let made = MatchResult-at_ok _ _ ready rekeyed
    (rekeying-answers limit secrets new salt input) in
    let plain : List ℕ = made.0.output in
    let again = made.2 in
    let read =
    sealed_reads_back limit new salt plain label salt_bytes salt_fits again.bytes again.fits in (
      plain,
      made.1 ∙ ap (λ (one : Ready). Ok (record { output = plain; tried = one.tried })) (sym made.3),
      λ rule.
          let alone_list : SecretList = record { secrets = new ∷ []; rule = rule } in
          ap (λ (one : Ready). decryption limit alone_list one.output) made.3
          ∙ decryption-of limit alone_list _ (Ok (sealed new salt plain)) (sym read)
          ∙ sealed_unseals alone_list new salt plain (alone new rule),
    )
