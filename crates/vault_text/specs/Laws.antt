-- Laws of the definitions, which hold for all bytes.
use Rattle.std.specs.Prelude.{◌≡◌, ◌≢◌, ℕ, ◌*◌, ◌≤◌, List, length, true, Ok, Err}
pub use Rattle.hex.specs.Hex.{IsBytes}
use Rattle.vault_text.specs.Envelope.{read_within}
use Rattle.vault_text.specs.Label.{is_label}
use Rattle.vault_text.specs.Limits.{ciphertext_limit}
use Rattle.vault_text.specs.Written.{written}
use Rattle.vault_text.specs.declared.limits.TheConstants.{SALT_LIMIT, TAG_LENGTH}
use Rattle.vault_text.specs.declared.fault.TextFault.TheVariants.{TooLong, CipherTooLong}

-- a written envelope reads back: its payload is what it was written from
abbrev pub WrittenReadsBack : Type 0
WrittenReadsBack =
    (limit : ℕ) (label salt tag ciphertext : List ℕ) → is_label label ≡ true
    → IsBytes salt → length salt ≤ SALT_LIMIT
    → IsBytes tag → length tag ≡ TAG_LENGTH
    → IsBytes ciphertext → length ciphertext ≤ ciphertext_limit limit
    → read_within limit (written label salt tag ciphertext)
    ≡ Ok (record { label = label; salt = salt; tag = tag; ciphertext = ciphertext })

-- a larger limit changes only the two results that are about a limit
abbrev pub LargerLimits : Type 0
LargerLimits =
    (smaller larger : ℕ) (input : List ℕ) → smaller ≤ larger
    → read_within smaller input ≢ Err TooLong → read_within smaller input ≢ Err CipherTooLong
    → read_within larger input ≡ read_within smaller input

-- each byte of the ciphertext takes four digits of an envelope, so an input of at most four times
-- the limit has the same result under it and under every larger one
abbrev pub ShortInputs : Type 0
ShortInputs =
    (smaller larger : ℕ) (input : List ℕ) → length input ≤ 4 * smaller → smaller ≤ larger
    → read_within larger input ≡ read_within smaller input
