-- What a reader keeps of an envelope that comes in pieces, at each point of its input.
use Rattle.std.specs.Prelude.{◌≡◌, ◌⊎◌, ℕ, ◌<◌, ◌≤◌, nat_lt, not, Bool, true, false, List, [], ◌∷◌}
use Rattle.std.specs.Prelude.{◌++◌, length, ⊤}
use Rattle.std.specs.List.{list_all}
use Rattle.vault_text.specs.Envelope.{body}
use Rattle.vault_text.specs.Header.{header_line}
use Rattle.vault_text.specs.Hexadecimal.{DecoderState, Decodes, new_decoder}
use Rattle.vault_text.specs.InnerText.{Parts, is_line_feed}
use Rattle.vault_text.specs.Limits.{ciphertext_limit, envelope_limit}
use Rattle.vault_text.specs.declared.limits.TheConstants.{HEADER_LIMIT, SALT_LIMIT, TAG_LENGTH}
use Rattle.vault_text.specs.declared.reader.inner_text.Part.{Part}
use Rattle.vault_text.specs.declared.reader.inner_text.Part.TheVariants.{Salt, Tag, Ciphertext}

-- the header line: the part of it that is kept, and whether its end was found
pub record LineState : Type 0 where
  pub kept : List ℕ
  pub has_ended : Bool

-- a prefix of this line is kept: all of it, or more bytes than a header line may have
pub record IsKept (kept line : List ℕ) : Type 0 where
  pub left_out : List ℕ
  pub prefix : line ≡ kept ++ left_out
  pub enough : (HEADER_LIMIT < length kept) ⊎ (left_out ≡ [])

-- the reader was given this input: it keeps the header line, and knows whether the line has ended
pub record LineHas (line : LineState) (input : List ℕ) : Type 0 where
  pub kept : IsKept line.kept (header_line input)
  pub ended : line.has_ended ≡ nat_lt (length (header_line input)) (length input)

-- a part of the inner text: its bytes, the decoder of its digits, how many bytes it may have, and
-- whether it has more; the bytes are then meaningless
pub record PartState : Type 0 where
  pub bytes : List ℕ
  pub decoder : DecoderState
  pub limit : ℕ
  pub is_long : Bool

-- the part was given these digits: it has the bytes that they spell, unless there are too many
pub record PartHas (limit : ℕ) (part : PartState) (digits : List ℕ) : Type 0 where
  pub same_limit : part.limit ≡ limit
  pub spelled : List ℕ
  pub decoded : Decodes new_decoder digits spelled part.decoder
  pub long : part.is_long ≡ true → limit < length spelled
  pub whole : part.is_long ≡ false → (part.bytes ≡ spelled) × (length spelled ≤ limit)

-- the inner text: the current part, and the three parts
pub record InnerState : Type 0 where
  pub part : Part
  pub salt : PartState
  pub tag : PartState
  pub ciphertext : PartState

-- the next part; the ciphertext is the last
abbrev pub next_part : Part → Part
next_part Salt = Tag
next_part Tag = Ciphertext
next_part Ciphertext = Ciphertext

-- the text has no LF
abbrev pub IsOneLine : List ℕ → Type 0
IsOneLine text = list_all (λ b. not (is_line_feed b)) text ≡ true

-- the ciphertext is all that follows the second LF; the salt and the tag have none
abbrev pub MayHave : Part → List ℕ → Type 0
MayHave Salt digits = IsOneLine digits
MayHave Tag digits = IsOneLine digits
MayHave Ciphertext digits = ⊤

-- the text is cut at its LFs up to the current part; the parts after it are empty
abbrev pub IsCut : Part → List ℕ → Parts → Type 0
IsCut Salt text parts =
    (text ≡ parts.salt) × IsOneLine parts.salt × (parts.tag ≡ []) × (parts.ciphertext ≡ [])
IsCut Tag text parts =
    (text ≡ parts.salt ++ 10 ∷ parts.tag)
    × IsOneLine parts.salt × IsOneLine parts.tag × (parts.ciphertext ≡ [])
IsCut Ciphertext text parts =
    (text ≡ parts.salt ++ 10 ∷ (parts.tag ++ 10 ∷ parts.ciphertext))
    × IsOneLine parts.salt × IsOneLine parts.tag

-- the reader was given this text: each part was given its digits
pub record InnerHas (limit : ℕ) (inner : InnerState) (text : List ℕ) : Type 0 where
  pub digits : Parts
  pub cut : IsCut inner.part text digits
  pub salt : PartHas SALT_LIMIT inner.salt digits.salt
  pub tag : PartHas TAG_LENGTH inner.tag digits.tag
  pub ciphertext : PartHas limit inner.ciphertext digits.ciphertext

-- the body: the decoder of its digits, and the inner text that they spell
pub record BodyState : Type 0 where
  pub decoder : DecoderState
  pub inner : InnerState

-- the reader was given these digits, and passed what they spell to the reader of the inner text
pub record BodyHas (limit : ℕ) (body : BodyState) (digits : List ℕ) : Type 0 where
  pub spelled : List ℕ
  pub decoded : Decodes new_decoder digits spelled body.decoder
  pub inner : InnerHas limit body.inner spelled

-- a reader: the limit of the plaintext, the number of bytes of input counted, the header line and
-- the body
pub record ReaderState : Type 0 where
  pub limit : ℕ
  pub bytes_read : ℕ
  pub line : LineState
  pub body : BodyState

-- the reader was given this input: its count is exact up to the limit, and it keeps the header line
-- and the body
pub record HasRead (reader : ReaderState) (input : List ℕ) : Type 0 where
  pub no_more : reader.bytes_read ≤ length input
  pub exact : reader.bytes_read ≤ envelope_limit reader.limit → reader.bytes_read ≡ length input
  pub line : LineHas reader.line input
  pub body : BodyHas (ciphertext_limit reader.limit) reader.body (body input)
