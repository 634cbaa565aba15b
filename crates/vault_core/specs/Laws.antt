-- Laws of the definitions, which hold for all secrets, salts and inputs.
use Rattle.std.specs.Prelude.{◌≡◌, ℕ, ◌*◌, ◌≤◌, List, [], ◌∷◌, length, true, Ok}
pub use Rattle.vault_text.specs.Laws.{IsBytes}
use Rattle.vault_text.specs.Label.{is_label}
use Rattle.vault_text.specs.declared.limits.TheConstants.{SALT_LIMIT}
use Rattle.vault_core.specs.Decryption.{decryption, payload_of}
use Rattle.vault_core.specs.Encryption.{encryption}
use Rattle.vault_core.specs.Form.{Form, Envelope}
use Rattle.vault_core.specs.Unsealing.{unsealing}
use Rattle.vault_aes.specs.Padding.{padded_length}
use Rattle.vault_core.specs.Ready.{Ready}
use Rattle.vault_core.specs.Rekeying.{rekeying}
use Rattle.vault_core.specs.Sealing.{sealed, text_in}
use Rattle.vault_core.specs.Secrets.{Secret, SecretList, secret_at, tried_order}
use Rattle.vault_text.specs.Limits.{ciphertext_limit}
use Rattle.vault_fault.specs.declared.label_rule.LabelRule.{LabelRule}

-- the first secret that is tried for a label has the password
abbrev pub IsTriedFirst : SecretList → Secret → Type 0
IsTriedFirst secrets sealing =
    (first : Secret) × (others : List Secret)
    × (tried_order secrets sealing.label ≡ first ∷ others) × (first.password ≡ sealing.password)

-- unsealing a sealed plaintext gives it back, under each rule
abbrev pub SealedUnseals : Type 0
SealedUnseals =
    (secrets : SecretList) (sealing : Secret) (salt plain : List ℕ) → IsTriedFirst secrets sealing
    → unsealing secrets (sealed sealing salt plain) ≡ Ok (record { output = plain; tried = 1 })

-- a vault that was sealed and written as an envelope reads back, if its ciphertext is not too long
abbrev pub SealedReadsBack : Type 0
SealedReadsBack =
    (limit : ℕ) (sealing : Secret) (salt plain : List ℕ) → is_label sealing.label ≡ true
    → IsBytes salt → length salt ≤ SALT_LIMIT
    → IsBytes plain → padded_length (length plain) ≤ ciphertext_limit limit
    → payload_of limit (text_in Envelope (sealed sealing salt plain))
    ≡ Ok (sealed sealing salt plain)

-- decrypting an encrypted input gives it back, under each rule
abbrev pub EncryptedDecrypts : Type 0
EncryptedDecrypts =
    (limit : ℕ) (list : List Secret) (index : ℕ) (salt input : List ℕ) (ready : Ready)
    → is_label (secret_at index list).label ≡ true
    → IsBytes salt → length salt ≤ SALT_LIMIT → IsBytes input
    → encryption limit list index Envelope salt input ≡ Ok ready
    → (secrets : SecretList) → IsTriedFirst secrets (secret_at index list)
    → decryption limit secrets ready.output ≡ Ok (record { output = input; tried = 1 })

-- a rekeyed vault decrypts with only the new secret, under each rule, to the same plaintext as
-- before
abbrev pub RekeyedDecrypts : Type 0
RekeyedDecrypts =
    (limit : ℕ) (secrets : SecretList) (new : Secret) (salt input : List ℕ) (ready : Ready)
    → is_label new.label ≡ true → IsBytes salt → length salt ≤ SALT_LIMIT
    → rekeying limit secrets new salt input ≡ Ok ready
    → (plain : List ℕ)
    × (decryption limit secrets input ≡ Ok (record { output = plain; tried = ready.tried }))
    × ((rule : LabelRule)
    → decryption limit (record { secrets = new ∷ []; rule = rule }) ready.output
    ≡ Ok (record { output = plain; tried = 1 }))

-- an input that is short enough gets the same answer under a limit and under every larger one: a
-- plaintext within the limit, and an envelope of at most four times as many bytes, since it spells
-- each byte with four digits
abbrev pub ShortInputs : Type 0
ShortInputs =
    (smaller larger : ℕ) (input : List ℕ) → smaller ≤ larger
    → (list : List Secret) (index : ℕ) (form : Form)
    (secrets : SecretList) (new : Secret) (salt : List ℕ)
    → (length input ≤ smaller
    → encryption larger list index form salt input ≡ encryption smaller list index form salt input)
    × (length input ≤ 4 * smaller
    → (decryption larger secrets input ≡ decryption smaller secrets input)
    × (rekeying larger secrets new salt input ≡ rekeying smaller secrets new salt input))
