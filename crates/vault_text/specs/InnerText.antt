-- The inner text of an envelope, which its body spells in hexadecimal: the salt, the tag and the
-- ciphertext, each in hexadecimal itself, with LF between them.
use Rattle.std.specs.Prelude.{ℕ, ◌==◌, ◌&&◌, nat_lt, nat_le, Bool, if◌then◌else◌, List, length}
use Rattle.std.specs.Prelude.{count_by, Option, Some, None, Result, Ok, Err}
use Rattle.std.specs.List.{before_first, after_first}
use Rattle.std.specs.Option.{ok_or}
use Rattle.vault_text.specs.Hexadecimal.{unhex}
use Rattle.vault_text.specs.Steps.{◌>>=◌}
use Rattle.vault_text.specs.declared.limits.TheConstants.{SALT_LIMIT, TAG_LENGTH}
use Rattle.vault_text.specs.declared.fault.TextFault.{TextFault}
use Rattle.vault_text.specs.declared.fault.TextFault.TheVariants.{BadPayload, CipherTooLong}

-- salt, tag and ciphertext: as digits, or as the bytes that these spell
pub record Parts : Type 0 where
  pub salt : List ℕ
  pub tag : List ℕ
  pub ciphertext : List ℕ

-- LF
abbrev pub is_line_feed : ℕ → Bool
is_line_feed b = b == 10

-- the text cut at its first two LFs; none if there are fewer
unfoldable pub cut : List ℕ → Option Parts
cut text =
    if nat_lt (count_by is_line_feed text) 2 then None
    else Some (record {
      salt = before_first is_line_feed text;
      tag = before_first is_line_feed (after_first is_line_feed text);
      ciphertext = after_first is_line_feed (after_first is_line_feed text);
    })

-- the parts, if the salt is short enough and the tag has 32 bytes
abbrev pub fitting : Parts → Result Parts TextFault
fitting parts =
    if nat_le (length parts.salt) SALT_LIMIT && length parts.tag == TAG_LENGTH then Ok parts
    else Err BadPayload

-- the bytes of a part, if it is hexadecimal
abbrev pub part_bytes : List ℕ → Result (List ℕ) TextFault
part_bytes digits = ok_or (unhex digits) BadPayload

-- the bytes of a ciphertext, if it is hexadecimal and no longer than the limit
abbrev pub ciphertext_of : ℕ → List ℕ → Result (List ℕ) TextFault
ciphertext_of limit digits = do
  bytes ← part_bytes digits
  if nat_lt limit (length bytes) then Err CipherTooLong else Ok bytes

-- step 8: the bytes of the three parts, if each is hexadecimal and the parts fit
unfoldable pub parts_of : List ℕ → Result Parts TextFault
parts_of text = do
  -- it has two LFs
  digits ← ok_or (cut text) BadPayload
  -- each part is hexadecimal
  salt ← part_bytes digits.salt
  tag ← part_bytes digits.tag
  ciphertext ← part_bytes digits.ciphertext
  -- the salt is no longer than its limit, and the tag has its length
  fitting (record { salt = salt; tag = tag; ciphertext = ciphertext })
