-- The header line of an envelope. Semicolons separate its fields: one that begins with
-- `$ANSIBLE_VAULT`, the version, the cipher and perhaps a label. Later fields are ignored.
use Rattle.std.specs.Prelude.{ℕ, ◌==◌, ◌&&◌, ◌||◌, nat_lt, nat_le, not, Bool, if◌then◌else◌, List}
use Rattle.std.specs.Prelude.{[], length, slice_index_or, codes, Result, Ok, Err}
use Rattle.std.specs.List.{list_all, slice_split, before_first}
use Rattle.std.specs.Str.{bytes_eq}
use Rattle.vault_text.specs.Label.{is_label, default_label}
use Rattle.vault_text.specs.Whitespace.{strip}
use Rattle.vault_text.specs.declared.limits.TheConstants.{HEADER_LIMIT}
use Rattle.vault_text.specs.declared.fault.TextFault.{TextFault}
use Rattle.vault_text.specs.declared.fault.TextFault.TheVariants.{HeaderTooLong, BadHeader}
use Rattle.vault_text.specs.declared.fault.TextFault.TheVariants.{BadVersion, BadCipher}

-- the bytes that every vault begins with
abbrev pub marker : List ℕ
marker = codes "$ANSIBLE_VAULT"

-- LF or CR
abbrev pub is_line_end : ℕ → Bool
is_line_end b = b == 10 || b == 13

-- the bytes before the first line end, or all if there is none
abbrev pub header_line : List ℕ → List ℕ
header_line input = before_first is_line_end input

-- the parts between semicolons (byte 59)
abbrev pub parts_of_line : List ℕ → List (List ℕ)
parts_of_line line = slice_split (λ b. b == 59) line

-- the part at a place, counted from 0, without whitespace at its ends; empty if there is none
abbrev pub field : ℕ → List ℕ → List ℕ
field place line = strip (slice_index_or (parts_of_line line) place [])

-- an empty field names the label `default`
abbrev pub label_or_default : List ℕ → List ℕ
label_or_default text = if length text == 0 then default_label else text

-- the fourth field, or `default` if it is absent or empty
abbrev pub label_of : List ℕ → List ℕ
label_of line = label_or_default (field 3 line)

-- a byte of ASCII
abbrev pub is_ascii : ℕ → Bool
is_ascii b = nat_lt b 128

-- ASCII, three fields or more, and a label in the fourth, unless it is empty
abbrev pub is_well_formed : List ℕ → Bool
is_well_formed line =
    list_all is_ascii line && nat_le 3 (length (parts_of_line line)) && is_label (label_of line)

-- a version of the payload format; both are read alike
abbrev pub is_version : List ℕ → Bool
is_version bytes = bytes_eq bytes (codes "1.1") || bytes_eq bytes (codes "1.2")

-- the one cipher of both versions
abbrev pub is_cipher : List ℕ → Bool
is_cipher bytes = bytes_eq bytes (codes "AES256")

-- steps 3 to 6: the label that a header line names, or its first fault
unfoldable pub read_header : List ℕ → Result (List ℕ) TextFault
read_header line =
    -- 3: the line is no longer than the limit
    if nat_lt HEADER_LIMIT (length line) then Err HeaderTooLong
    -- 4: it has the form of a header line
    else if not (is_well_formed line) then Err BadHeader
    -- 5: its second field is the version
    else if not (is_version (field 1 line)) then Err BadVersion
    -- 6: its third field is the cipher
    else if not (is_cipher (field 2 line)) then Err BadCipher
    else Ok (label_of line)
