-- What is read in a body that was written.
use Rattle.std.proofs.Common.{◌≡◌, ℕ, zero, suc, ◌+◌, ◌*◌, ◌≤◌, Bool, true, false, not, List}
use Rattle.std.proofs.Common.{[], ◌∷◌, ◌++◌, length, take, drop, inl, inr, arith, ap, sym, ◌∙◌}
use Rattle.std.proofs.Common.{refl, Ok, Some, length-append, length-drop, length-take}
use Rattle.std.specs.List.{filter, list_all}
use Rattle.std.specs.Prelude.{nat_lt}
use Rattle.std.specs.Result.{result_ok}
use Rattle.std.proofs.lemmas.Bool.{cases_lt, le-leb, lt-leb, ltb-true}
use Rattle.std.proofs.lemmas.Bool.Decides.{Decides-eqb}
use Rattle.std.proofs.lemmas.List.{append-nil, get_or_past, take-append-drop}
use Rattle.std.proofs.lemmas.List.Elements.{filter-append}
use Rattle.std.proofs.lemmas.List.Folds.{list_all-append}
use Rattle.hex.specs.Hex.{IsBytes, encode_lower}
use Rattle.hex.proofs.HexLemmas.{decode_of-encode_lower}
use Rattle.vault_text.specs.Envelope.{read_body}
use Rattle.vault_text.specs.Hexadecimal.{unhex}
use Rattle.vault_text.specs.InnerText.{is_line_feed, parts_of}
use Rattle.vault_text.specs.Limits.{ciphertext_limit}
use Rattle.vault_text.specs.declared.limits.TheConstants.{SALT_LIMIT, TAG_LENGTH}
use Rattle.vault_text.specs.Written.{body_lines, inner_text, text_of_lines}
use Rattle.vault_text.proofs.WrittenLemmas.{body_text-nil, body_text-step}
use Rattle.vault_text.proofs.ListLemmas.{encode_lower-clean, passes_at}
use Rattle.vault_text.proofs.InnerTextLemmas.{cut-lines}

-- ---- lines

-- a line end for each line
pub body_text-short : (lines : ℕ) (digits : List ℕ) → length digits ≤ 80 * lines
    → length (text_of_lines [] (body_lines digits)) ≤ length digits + lines
body_text-short zero [] few = rw (body_text-nil []) (omega arith)
body_text-short zero (d ∷ digits) few = absurd (omega arith)
body_text-short (suc lines) [] few = rw (body_text-nil []) (omega arith)
body_text-short (suc lines) (d ∷ digits) few =
    let all : List ℕ = d ∷ digits in
    let left = length-drop 80 all in
    let later = body_text-short lines (drop 80 all) (omega arith) in
    let first = length-append (take 80 all) (10 ∷ []) in
    let size = length-take 80 all in
    let both = length-append (take 80 all ++ 10 ∷ [])
    (text_of_lines [] (body_lines (drop 80 all))) in
    rw (body_text-step [] all (omega arith)) (omega arith)

-- the digits are what stands on the lines
pub filter-body_text : (p : ℕ → Bool) → p 10 ≡ false → (lines : ℕ) (digits : List ℕ)
    → length digits ≤ 80 * lines
    → filter p (text_of_lines [] (body_lines digits)) ≡ filter p digits
filter-body_text p end zero [] few = rw (body_text-nil []) refl
filter-body_text p end zero (d ∷ digits) few = absurd (omega arith)
filter-body_text p end (suc lines) [] few = rw (body_text-nil []) refl
filter-body_text p end (suc lines) (d ∷ digits) few =
    let all : List ℕ = d ∷ digits in
    let left = length-drop 80 all in
    let later = filter-body_text p end lines (drop 80 all) (omega arith) in
    let none : filter p (10 ∷ []) ≡ [] = rw end refl in
    ap (filter p) (body_text-step [] all (omega arith))
    ∙ filter-append p (take 80 all ++ 10 ∷ []) (text_of_lines [] (body_lines (drop 80 all)))
    ∙ rw (filter-append p (take 80 all) (10 ∷ []), none, append-nil, later)
    (sym (filter-append p (take 80 all) (drop 80 all)))
    ∙ ap (filter p) (take-append-drop 80 all)

-- ---- the inner text

bytes_from_test : (xs : List ℕ) → list_all (λ b. nat_lt b 256) xs ≡ true → IsBytes xs
bytes_from_test xs pass i =
    elim (cases_lt i (length xs)) [
      | inl inside ↦ ltb-true _ _ (passes_at (λ b. nat_lt b 256) xs i 0 pass inside)
      | inr past ↦ rw (get_or_past xs i 0 past) (omega arith)
    ]

pub inner_text-bytes : (salt tag ciphertext : List ℕ) → IsBytes (inner_text salt tag ciphertext)
inner_text-bytes salt tag ciphertext =
    let p : ℕ → Bool = λ b. nat_lt b 256 in
    bytes_from_test (inner_text salt tag ciphertext) (simp (
      list_all-append,
      encode_lower-clean p refl refl salt,
      encode_lower-clean p refl refl tag,
      encode_lower-clean p refl refl ciphertext,
    ))

no_line_feed : (xs : List ℕ) → list_all (λ b. not (is_line_feed b)) (encode_lower xs) ≡ true
no_line_feed xs = encode_lower-clean (λ b. not (is_line_feed b)) refl refl xs

-- ---- reading

unhex-encode_lower : (xs : List ℕ) → IsBytes xs → unhex (encode_lower xs) ≡ Some xs
unhex-encode_lower xs bytes = ap result_ok (decode_of-encode_lower xs bytes)

pub body-reads : (limit : ℕ) (label salt tag ciphertext : List ℕ) → IsBytes salt
    → length salt ≤ SALT_LIMIT → IsBytes tag → length tag ≡ TAG_LENGTH
    → IsBytes ciphertext → length ciphertext ≤ ciphertext_limit limit
    → read_body limit label (encode_lower (inner_text salt tag ciphertext))
    ≡ Ok (record { label = label; salt = salt; tag = tag; ciphertext = ciphertext })
unfolding parts_of read_body
body-reads limit label salt tag ciphertext salt_bytes salt_short tag_bytes tag_whole
    ciphertext_bytes ciphertext_short =
    let short : nat_lt (ciphertext_limit limit) (length ciphertext) ≡ false =
    lt-leb _ _ (omega arith) in
    rw (
      unhex-encode_lower (inner_text salt tag ciphertext) (inner_text-bytes salt tag ciphertext),
      cut-lines (encode_lower salt) (encode_lower tag) (encode_lower ciphertext) (no_line_feed salt)
          (no_line_feed tag),
      unhex-encode_lower salt salt_bytes,
      unhex-encode_lower tag tag_bytes,
      unhex-encode_lower ciphertext ciphertext_bytes,
      le-leb (length salt) SALT_LIMIT salt_short,
      (Decides-eqb (length tag) TAG_LENGTH).1 tag_whole,
      short,
    ) refl
