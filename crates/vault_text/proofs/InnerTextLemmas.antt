-- The three parts of an inner text, held against their limits one by one or at once.
use Rattle.std.proofs.Common.{◌≡◌, ◌≢◌, ℕ, ◌+◌, ◌<◌, ◌≤◌, ◌==◌, true, false, not, List, [], ◌∷◌}
use Rattle.std.proofs.Common.{◌++◌, length, Option, Some, None, Result, Ok, Err, cond, refl, ap}
use Rattle.std.proofs.Common.{subst, ◌∙◌, eq-eqb, arith, inl, inr}
use Rattle.std.specs.Prelude.{if◌then◌else◌, nat_lt, nat_le, IfSome}
use Rattle.std.specs.List.{count_by, list_all}
use Rattle.std.specs.Option.{ok_or}
use Rattle.std.proofs.lemmas.Bool.{and_parts, cases_Bool, not-true}
use Rattle.std.proofs.lemmas.Bool.Decides.{nat_tests}
use Rattle.std.proofs.lemmas.List.{append-nil}
use Rattle.std.proofs.lemmas.List.Sums.{sum_by-cons}
use Rattle.vault_text.specs.Envelope.{Payload, read_inner}
use Rattle.vault_text.specs.Hexadecimal.{unhex}
use Rattle.vault_text.specs.EnvelopeReader.{InnerHas, InnerState, IsCut, IsOneLine}
use Rattle.vault_text.specs.InnerText.{Parts, cut, fitting, is_line_feed, parts_of}
use Rattle.vault_text.specs.Limits.{ciphertext_limit}
use Rattle.vault_text.specs.Steps.{◌>>=◌}
use Rattle.vault_text.specs.declared.limits.TheConstants.{SALT_LIMIT, TAG_LENGTH}
use Rattle.vault_text.specs.declared.fault.TextFault.{TextFault}
use Rattle.vault_text.specs.declared.fault.TextFault.TheVariants.{BadPayload, CipherTooLong}
use Rattle.vault_text.specs.declared.reader.inner_text.Part.{Part}
use Rattle.vault_text.specs.declared.reader.inner_text.Part.TheVariants.{Salt, Tag, Ciphertext}
use Rattle.vault_text.proofs.ListLemmas.{first-clean}

-- ---- the text, cut

count_by-end : (text : List ℕ) → count_by is_line_feed (10 ∷ text) ≡ 1 + count_by is_line_feed text
count_by-end text = sum_by-cons (λ b. cond (is_line_feed b) 1 0) 10 text

count_by-line : (xs ys : List ℕ) → IsOneLine xs
    → count_by is_line_feed (xs ++ ys) ≡ count_by is_line_feed ys
count_by-line [] ys line = refl
count_by-line (x ∷ xs) ys line =
    let parts = and_parts (not (is_line_feed x)) (list_all (λ b. not (is_line_feed b)) xs) line in
    let later = count_by-line xs ys parts.1 in
    rw (
      sum_by-cons (λ b. cond (is_line_feed b) 1 0) x (xs ++ ys),
      not-true (is_line_feed x) parts.0,
    ) (omega (arith, later))

-- a text of three lines, of which the last may go on
pub cut-lines : (x y z : List ℕ) → IsOneLine x → IsOneLine y
    → cut (x ++ 10 ∷ (y ++ 10 ∷ z)) ≡ Some (record { salt = x; tag = y; ciphertext = z })
unfolding cut
cut-lines x y z first second =
    let rest = y ++ 10 ∷ z in
    let text = x ++ 10 ∷ rest in
    let salt = first-clean is_line_feed x 10 rest first refl in
    let tag = first-clean is_line_feed y 10 z second refl in
    let count = count_by-line x (10 ∷ rest) first in
    let one = count_by-end rest in
    let later = count_by-line y (10 ∷ z) second in
    let two = count_by-end z in
    let many : nat_lt (count_by is_line_feed text) 2 ≡ false = grind (arith, nat_tests) in
    rw (many, salt.0, salt.1, tag.0, tag.1) refl

-- before the ciphertext there is at most one LF
early-few : (part : Part) (text : List ℕ) (parts : Parts) → part ≢ Ciphertext
    → IsCut part text parts
    → count_by is_line_feed text ≤ 1
early-few Salt text parts early is =
    let none = rw append-nil at (count_by-line parts.salt [] is.1) in
    rw (is.0, none) (omega arith)
early-few Tag text parts early is =
    let none = rw append-nil at (count_by-line parts.tag [] is.2) in
    rw (is.0, count_by-line parts.salt (10 ∷ parts.tag) is.1, count_by-end parts.tag, none)
    (omega arith)
early-few Ciphertext text parts early is = absurd (early refl)

-- ---- what the parts give

-- the payload of the bytes of three parts
abbrev payload_of : ℕ → List ℕ → Option (List ℕ) → Option (List ℕ) → Option (List ℕ)
    → Result Payload TextFault
payload_of room label salt tag ciphertext = (do
  s ← ok_or salt BadPayload
  t ← ok_or tag BadPayload
  c ← ok_or ciphertext BadPayload
  fitting (record { salt = s; tag = t; ciphertext = c })) >>= (λ parts.
    if nat_lt room (length parts.ciphertext) then Err CipherTooLong
    else Ok (record {
      label = label;
      salt = parts.salt;
      tag = parts.tag;
      ciphertext = parts.ciphertext;
    }))

-- the bytes of a ciphertext, by what its digits spell
abbrev within : ℕ → Option (List ℕ) → Result (List ℕ) TextFault
within room spelled = ok_or spelled BadPayload >>= (λ bytes.
    if nat_lt room (length bytes) then Err CipherTooLong else Ok bytes)

module _ (limit : ℕ) (label : List ℕ) where
  abbrev room : ℕ
  room = ciphertext_limit limit

  pub payload_of-bad_salt : (salt tag ciphertext : Option (List ℕ))
      → IfSome salt (λ s. SALT_LIMIT < length s)
      → payload_of room label salt tag ciphertext ≡ Err BadPayload
  payload_of-bad_salt None tag ciphertext long = refl
  payload_of-bad_salt (Some s) None ciphertext long = refl
  payload_of-bad_salt (Some s) (Some t) None long = refl
  payload_of-bad_salt (Some s) (Some t) (Some c) long =
      let over : nat_le (length s) SALT_LIMIT ≡ false = grind (arith, nat_tests) in
      rw over refl

  pub payload_of-bad_tag : (salt tag ciphertext : Option (List ℕ))
      → IfSome tag (λ t. length t ≢ TAG_LENGTH)
      → payload_of room label salt tag ciphertext ≡ Err BadPayload
  payload_of-bad_tag None tag ciphertext odd = refl
  payload_of-bad_tag (Some s) None ciphertext odd = refl
  payload_of-bad_tag (Some s) (Some t) None odd = refl
  payload_of-bad_tag (Some s) (Some t) (Some c) odd =
      let test : (length t == TAG_LENGTH) ≡ false = grind (arith, nat_tests) in
      elim (cases_Bool (nat_le (length s) SALT_LIMIT)) [
        | inl fits ↦ rw (fits, test) refl
        | inr over ↦ rw over refl
      ]

  -- if the salt and the tag fit, the result is that of the ciphertext
  pub payload_of-ciphertext : (s t : List ℕ) (ciphertext : Option (List ℕ))
      (answer : Result (List ℕ) TextFault) → length s ≤ SALT_LIMIT → length t ≡ TAG_LENGTH
      → within room ciphertext ≡ answer
      → payload_of room label (Some s) (Some t) ciphertext
      ≡ (answer >>= (λ c. Ok (record { label = label; salt = s; tag = t; ciphertext = c })))
  payload_of-ciphertext s t None answer fits whole same =
      ap (λ r. r >>= (λ c. Ok (record { label = label; salt = s; tag = t; ciphertext = c }))) same
  payload_of-ciphertext s t (Some c) answer fits whole same =
      let within : nat_le (length s) SALT_LIMIT ≡ true = grind (arith, nat_tests) in
      let tested = eq-eqb (length t) TAG_LENGTH whole in
      elim (cases_Bool (nat_lt room (length c))) [
        | inl long ↦ rw (← same, within, tested, long) refl
        | inr short ↦ rw (← same, within, tested, short) refl
      ]

  -- ---- what the text gives

  pub read_inner-cut_off : (text : List ℕ) (inner : InnerState) → InnerHas room inner text
      → inner.part ≢ Ciphertext → read_inner limit label text ≡ Err BadPayload
  unfolding parts_of cut
  read_inner-cut_off text inner has early =
      let few = early-few inner.part text has.digits early has.cut in
      let test : nat_lt (count_by is_line_feed text) 2 ≡ true = grind (arith, nat_tests) in
      rw test refl

  pub read_inner-parts : (text : List ℕ) (inner : InnerState) (has : InnerHas room inner text)
      → inner.part ≡ Ciphertext
      → read_inner limit label text ≡ payload_of room label (unhex has.digits.salt)
      (unhex has.digits.tag) (unhex has.digits.ciphertext)
  unfolding parts_of
  read_inner-parts text inner has here =
      let is = subst (λ (part : Part). IsCut part text has.digits) here has.cut in
      let d = has.digits in
      rw (ap cut is.0 ∙ cut-lines d.salt d.tag d.ciphertext is.1 is.2) refl
