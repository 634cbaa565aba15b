-- An escaped text is printable.
use Rattle.std.proofs.Common.{◌≡◌, ◌<◌, ◌^◌, ℕ, true, false, List, [], ◌∷◌, ◌++◌, All, arith}
use Rattle.std.proofs.Common.{codes, if◌then◌else◌, refl, sym}
use Rattle.std.specs.Prelude.{String}
use Rattle.std.specs.Char.{digit_value, encode_utf8}
use Rattle.std.specs.Fmt.{digits}
use Rattle.std.specs.List.{flat_map}
use Rattle.std.specs.Str.{chars, encode_utf8_all}
use Rattle.std.specs.String.{string_bytes}
use Rattle.std.specs.Str.Parse.{AllDigits}
use Rattle.std.proofs.lemmas.Fmt.{digits_is_IsNumeral}
use Rattle.std.proofs.lemmas.Grind.{flat_map-append}
use Rattle.std.proofs.lemmas.List.{append-nil}
use Rattle.std.proofs.lemmas.List.Elements.{All-append, All-cons, All-nil}
use Rattle.std.proofs.lemmas.Str.{IsUtf8-string_bytes, chars_from_encodes}
use Rattle.std.proofs.lemmas.Str.{encodes-IsAscii, encodes-append}
use Rattle.std.proofs.lemmas.Str.Ascii.{IsAscii-from_all}
use Rattle.vault_cli.specs.Escaped.{IsPrintable, escaped_char, is_unprintable}

-- the characters of an escape
abbrev escape : ℕ → List ℕ
escape c = codes "\\u{" ++ digits 16 false c ++ codes "}"

unprintable-small : (c : ℕ) → is_unprintable c ≡ true → c < 16 ^ 64
unprintable-small c unprintable = grind arith

digit-between : (d : ℕ) → digit_value d < 16 → (31 < d) × (d < 127)
digit-between d small = grind arith

module _ (P : ℕ → Type 0) (between : (d : ℕ) → 31 < d → d < 127 → P d) where
  digits-all : (ds : List ℕ) → AllDigits 16 ds → All P ds
  digits-all [] digits = All-nil P
  digits-all (d ∷ ds) digits =
      let within = digit-between d digits.0 in
      All-cons P d ds (between d within.0 within.1) (digits-all ds digits.1)

  escape-all : (c : ℕ) → is_unprintable c ≡ true → All P (escape c)
  escape-all c unprintable =
      All-append P (codes "\\u{") (digits 16 false c ++ codes "}")
      (All-cons P 92 (117 ∷ 123 ∷ []) (between 92 (omega arith) (omega arith))
      (All-cons P 117 (123 ∷ []) (between 117 (omega arith) (omega arith))
      (All-cons P 123 [] (between 123 (omega arith) (omega arith)) (All-nil P))))
      (All-append P (digits 16 false c) (codes "}")
      (digits-all _ (digits_is_IsNumeral 16 false (omega arith) (omega arith) c
      (unprintable-small c unprintable)).0.1)
      (All-cons P 125 [] (between 125 (omega arith) (omega arith)) (All-nil P)))

escape-is-ascii : (c : ℕ) → is_unprintable c ≡ true → encode_utf8_all (escape c) ≡ escape c
escape-is-ascii c unprintable =
    encodes-IsAscii (escape c) (IsAscii-from_all (escape c)
    (escape-all (λ d. d < 128) (λ d above below. omega arith) c unprintable))

pub encoded-char : (c : ℕ) → encode_utf8_all (escaped_char c)
    ≡ (if is_unprintable c then escape c else encode_utf8 c)
encoded-char c =
    elim (is_unprintable c) as (λ b. is_unprintable c ≡ b
    → encode_utf8_all (if b then escape c else c ∷ [])
    ≡ (if b then escape c else encode_utf8 c)) [
      | true ↦ λ unprintable. escape-is-ascii c unprintable
      | false ↦ λ is. append-nil (encode_utf8 c)
    ] refl

pub encoded-more : (cs : List ℕ) (c : ℕ) → encode_utf8_all (flat_map escaped_char (cs ++ c ∷ []))
    ≡ encode_utf8_all (flat_map escaped_char cs) ++ encode_utf8_all (escaped_char c)
encoded-more cs c =
    rw (
      flat_map-append escaped_char cs (c ∷ []),
      append-nil (escaped_char c),
      encodes-append (flat_map escaped_char cs) (escaped_char c),
    )

between-printable : (d : ℕ) → 31 < d → d < 127 → IsPrintable d
between-printable d above below = grind arith

char-printable : (c : ℕ) → All IsPrintable (escaped_char c)
char-printable c =
    elim (is_unprintable c) as (λ b. is_unprintable c ≡ b
    → All IsPrintable (if b then escape c else c ∷ [])) [
      | true ↦ λ unprintable. escape-all IsPrintable between-printable c unprintable
      | false ↦ λ is. All-cons IsPrintable c [] is (All-nil IsPrintable)
    ] refl

chars-printable : (cs : List ℕ) → All IsPrintable (flat_map escaped_char cs)
chars-printable [] = All-nil IsPrintable
chars-printable (c ∷ cs) =
    All-append IsPrintable (escaped_char c) (flat_map escaped_char cs)
    (char-printable c) (chars-printable cs)

pub text-printable : {Z : Type 0} (text : String Z) (cs : List ℕ)
    → string_bytes text ≡ encode_utf8_all (flat_map escaped_char cs)
    → All IsPrintable (chars (string_bytes text))
text-printable text cs is =
    rw (← chars_from_encodes (flat_map escaped_char cs) (string_bytes text)
    (IsUtf8-string_bytes text) (sym is)) (chars-printable cs)
