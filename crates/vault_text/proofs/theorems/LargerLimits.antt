-- What reading gives under two limits.
use Rattle.std.proofs.Common.{◌≡◌, ℕ, ◌*◌, ◌≤◌, false, not, List, [], ◌∷◌}
use Rattle.std.proofs.Common.{length, drop, suc, Option, Some, None, Result, Ok, Err, refl, ap}
use Rattle.std.proofs.Common.{arith, inl, inr, length-drop}
use Rattle.std.specs.Prelude.{nat_lt, IfOk, IfSome}
use Rattle.std.specs.List.{count_by}
use Rattle.std.specs.Option.{ok_or}
use Rattle.std.proofs.lemmas.Bool.{cases_Bool}
use Rattle.std.proofs.lemmas.Bool.Decides.{nat_tests}
use Rattle.std.proofs.lemmas.List.Sums.{count_by-le-length, length-filter}
use Rattle.vault_text.specs.Envelope.{body, read_body, read_head, read_within}
use Rattle.vault_text.specs.Header.{header_line, is_line_end}
use Rattle.vault_text.specs.Hexadecimal.{unhex}
use Rattle.vault_text.specs.InnerText.{Parts, cut, is_line_feed, part_bytes, parts_of}
use Rattle.vault_text.specs.Laws.{LargerLimits, ShortInputs}
use Rattle.vault_text.specs.Limits.{ciphertext_limit, envelope_limit}
use Rattle.vault_text.specs.Steps.{◌>>=◌}
use Rattle.vault_text.specs.declared.fault.TextFault.{TextFault}
use Rattle.vault_text.specs.declared.fault.TextFault.TheVariants.{BadHex, BadPayload}
use Rattle.vault_text.proofs.EnvelopeLemmas.{IfOk-if, IfOk-steps}
use Rattle.vault_text.proofs.HexadecimalLemmas.{byte_of, cons_found, spelled_bytes}
use Rattle.vault_text.proofs.HexadecimalLemmas.{unhex-spelled_bytes}

-- ---- two limits that give one result

ok_or-found : {A : Type 0} (o : Option A) (fault : TextFault) (x : A) → ok_or o fault ≡ Ok x
    → o ≡ Some x
ok_or-found (Some y) fault x found = let same : y ≡ x = cc in ap Some same
ok_or-found None fault x found = cc

steps-same : {A B : Type 0} (r : Result A TextFault) (f g : A → Result B TextFault)
    → ((x : A) → r ≡ Ok x → f x ≡ g x) → (r >>= f) ≡ (r >>= g)
steps-same (Ok x) f g same = same x refl
steps-same (Err fault) f g same = refl

-- a body whose ciphertext has room under the smaller limit
read_body-same : (smaller larger : ℕ) (label digits : List ℕ) → smaller ≤ larger
    → ((inner : List ℕ) (parts : Parts) → unhex digits ≡ Some inner → parts_of inner ≡ Ok parts
    → nat_lt (ciphertext_limit smaller) (length parts.ciphertext) ≡ false)
    → read_body larger label digits ≡ read_body smaller label digits
unfolding read_body
read_body-same smaller larger label digits more fits =
    steps-same (ok_or (unhex digits) BadHex) _ _ (λ inner spelled.
    steps-same (parts_of inner) _ _ (λ parts known.
    let short = fits inner parts (ok_or-found (unhex digits) BadHex inner spelled) known in
    let shorter : nat_lt (ciphertext_limit larger) (length parts.ciphertext) ≡ false =
    grind (arith, nat_tests) in
    rw (short, shorter) refl))

-- an envelope whose body has one result
read_within-same : (smaller larger : ℕ) (input : List ℕ)
    → nat_lt (envelope_limit smaller) (length input) ≡ false → smaller ≤ larger
    → ((label : List ℕ) → read_head input ≡ Ok label
    → read_body larger label (body input) ≡ read_body smaller label (body input))
    → read_within larger input ≡ read_within smaller input
unfolding read_within
read_within-same smaller larger input short more same =
    let shorter : nat_lt (envelope_limit larger) (length input) ≡ false =
    grind (arith, nat_tests) in
    rw (short, shorter) (steps-same (read_head input) _ _ same)

-- ---- a larger limit

pub larger_limits : LargerLimits
unfolding read_within read_body
larger_limits smaller larger input more not_long fits =
    elim (cases_Bool (nat_lt (envelope_limit smaller) (length input))) [
      | inl long ↦ absurd (not_long (rw long refl))
      | inr short ↦
          read_within-same smaller larger input short more (λ label names.
          read_body-same smaller larger label (body input) more (λ inner parts spelled known.
          elim (cases_Bool (nat_lt (ciphertext_limit smaller) (length parts.ciphertext))) [
            | inl long ↦ absurd (fits (rw (short, names, spelled, known, long) refl))
            | inr fitting ↦ fitting
          ]))
    ]

-- ---- a short input

-- a text has two digits for each byte that it spells
spelled_bytes-short : (text : List ℕ)
    → IfSome (spelled_bytes text) (λ found. 2 * length found ≤ length text)
spelled_bytes-short [] = omega arith
spelled_bytes-short (digit ∷ []) = tt
spelled_bytes-short (high ∷ low ∷ rest) =
    longer (byte_of high low) (spelled_bytes rest) (length rest) (spelled_bytes-short rest)
  where
    longer : (byte : Option ℕ) (bytes : Option (List ℕ)) (n : ℕ)
        → IfSome bytes (λ found. 2 * length found ≤ n)
        → IfSome (cons_found byte bytes) (λ found. 2 * length found ≤ suc (suc n))
    longer None bytes n short = tt
    longer (Some byte) None n short = tt
    longer (Some byte) (Some bytes) n short = omega arith

unhex-short : (text : List ℕ) → IfSome (unhex text) (λ found. 2 * length found ≤ length text)
unhex-short text = rw (unhex-spelled_bytes text) (spelled_bytes-short text)

cut-short : (text : List ℕ) → IfSome (cut text) (λ parts. length parts.ciphertext ≤ length text)
unfolding cut
cut-short text =
    elim (cases_Bool (nat_lt (count_by is_line_feed text) 2)) [
      | inl few ↦ rw few tt
      | inr many ↦ rw many (omega (arith, length-drop {A = ℕ}))
    ]

parts_of-short : (text : List ℕ)
    → IfOk (parts_of text) (λ parts. 2 * length parts.ciphertext ≤ length text)
unfolding parts_of
parts_of-short text =
    let P : Parts → Type 0 = λ parts. 2 * length parts.ciphertext ≤ length text in
    IfOk-steps (ok_or (cut text) BadPayload) _ P (λ digits lines.
    IfOk-steps (part_bytes digits.salt) _ P (λ salt _.
    IfOk-steps (part_bytes digits.tag) _ P (λ tag _.
    IfOk-steps (part_bytes digits.ciphertext) _ P (λ ciphertext spelled.
    let part = rw (ok_or-found (cut text) BadPayload digits lines) at (cut-short text) in
    let bytes = rw (ok_or-found (unhex digits.ciphertext) BadPayload ciphertext spelled)
    at (unhex-short digits.ciphertext) in
    IfOk-if _ (record { salt = salt; tag = tag; ciphertext = ciphertext }) BadPayload P
    (omega (arith, part, bytes))))))

body-short : (input : List ℕ) → length (body input) ≤ length input
body-short input =
    let rest = drop (length (header_line input)) input in
    let kept = length-filter (λ b. not (is_line_end b)) rest in
    let fewer = count_by-le-length (λ b. not (is_line_end b)) rest in
    let left = length-drop (length (header_line input)) input in
    omega arith

pub short_inputs : ShortInputs
short_inputs smaller larger input few more =
    let short : nat_lt (envelope_limit smaller) (length input) ≡ false = grind (arith, nat_tests) in
    let body_few = body-short input in
    read_within-same smaller larger input short more (λ label names.
    read_body-same smaller larger label (body input) more (λ inner parts spelled known.
    let inner_short : 2 * length inner ≤ length (body input) = rw spelled
    at (unhex-short (body input)) in
    let parts_short : 2 * length parts.ciphertext ≤ length inner =
    rw known at (parts_of-short inner) in
    grind (arith, nat_tests)))
