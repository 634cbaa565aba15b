-- The limits that follow from the limit of the plaintext.
use Rattle.std.specs.Prelude.{ℕ, ◌+◌, ◌-◌, ◌*◌, ◌≤◌}
use Rattle.vault_text.specs.declared.limits.TheConstants.{CIPHERTEXT_LIMIT, PADDING_LIMIT}

-- the limit of a ciphertext: plaintext and padding
abbrev pub ciphertext_limit : ℕ → ℕ
ciphertext_limit limit = limit + PADDING_LIMIT

-- the limit of an envelope, line ends included
abbrev pub envelope_limit : ℕ → ℕ
envelope_limit limit = 6 * limit + 8192

-- memory of this length has room for padding, and is no longer than the longest ciphertext
abbrev pub IsWorkLength : ℕ → Type 0
IsWorkLength length = (PADDING_LIMIT ≤ length) × (length ≤ CIPHERTEXT_LIMIT)

-- the length of the longest plaintext that, once padded, fits into borrowed memory of this length
abbrev pub limit_of : ℕ → ℕ
limit_of length = length - PADDING_LIMIT
