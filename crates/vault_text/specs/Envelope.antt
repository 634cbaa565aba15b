-- The envelope of a vault, formats 1.1 and 1.2: a header line, and a body that spells the inner
-- text. It is read in nine steps; the first one that fails gives the fault.
use Rattle.std.specs.Prelude.{ℕ, nat_lt, nat_eq, not, if◌then◌else◌, List, length, drop, filter}
use Rattle.std.specs.Prelude.{Result, Ok, Err}
use Rattle.std.specs.List.{starts_with}
use Rattle.std.specs.Option.{ok_or}
use Rattle.vault_text.specs.Header.{marker, is_line_end, header_line, read_header}
use Rattle.vault_text.specs.Hexadecimal.{unhex}
use Rattle.vault_text.specs.InnerText.{parts_of}
use Rattle.vault_text.specs.Limits.{ciphertext_limit, envelope_limit}
use Rattle.vault_text.specs.Steps.{◌>>=◌}
use Rattle.vault_text.specs.declared.limits.TheConstants.{PLAINTEXT_LIMIT}
use Rattle.vault_text.specs.declared.fault.TextFault.{TextFault}
use Rattle.vault_text.specs.declared.fault.TextFault.TheVariants.{TooLong, NotVault}
use Rattle.vault_text.specs.declared.fault.TextFault.TheVariants.{BadHex, CipherTooLong}

-- the contents of an envelope
pub record Payload : Type 0 where
  pub label : List ℕ
  pub salt : List ℕ
  pub tag : List ℕ
  pub ciphertext : List ℕ

-- a text without its CRs and LFs
abbrev pub without_line_ends : List ℕ → List ℕ
without_line_ends text = filter (λ b. not (is_line_end b)) text

-- the digits of the body: what follows the header line, without line ends
abbrev pub body : List ℕ → List ℕ
body input = without_line_ends (drop (length (header_line input)) input)

-- steps 2 to 6: the label of the header line
abbrev pub read_head : List ℕ → Result (List ℕ) TextFault
read_head input =
    -- 2: the input begins like every vault
    if not (starts_with nat_eq input marker) then Err NotVault
    -- 3 to 6
    else read_header (header_line input)

-- steps 8 and 9: the payload of an inner text, with the label of the header line
abbrev pub read_inner : ℕ → List ℕ → List ℕ → Result Payload TextFault
read_inner limit label text = do
  -- 8: it has three parts that fit
  parts ← parts_of text
  -- 9: the ciphertext is no longer than the limit allows
  if nat_lt (ciphertext_limit limit) (length parts.ciphertext) then Err CipherTooLong
      else Ok (record {
        label = label;
        salt = parts.salt;
        tag = parts.tag;
        ciphertext = parts.ciphertext;
      })

-- steps 7 to 9: the payload of a body, with the label of the header line
unfoldable pub read_body : ℕ → List ℕ → List ℕ → Result Payload TextFault
read_body limit label digits = do
  -- 7: it is hexadecimal
  inner ← ok_or (unhex digits) BadHex
  -- 8 and 9
  read_inner limit label inner

-- the payload of an envelope under this limit of the plaintext, or the fault of the first of the
-- nine steps that fails
unfoldable pub read_within : ℕ → List ℕ → Result Payload TextFault
read_within limit input =
    -- 1: the input is no longer than the limit allows
    if nat_lt (envelope_limit limit) (length input) then Err TooLong
    -- 2 to 6, then 7 to 9
    else read_head input >>= (λ label. read_body limit label (body input))

-- the payload of an envelope, or its first fault
abbrev pub read : List ℕ → Result Payload TextFault
read input = read_within PLAINTEXT_LIMIT input
