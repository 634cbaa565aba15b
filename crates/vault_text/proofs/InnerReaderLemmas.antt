-- What is kept of the inner text, and what it gives at its end.
use Rattle.std.proofs.Common.{◌≡◌, ℕ, ◌+◌, ◌<◌, ◌≤◌, Bool, true, not, List, [], ◌∷◌, ◌++◌}
use Rattle.std.proofs.Common.{length, Option, Some, None, refl, ap, ◌∙◌, arith, inl, inr}
use Rattle.std.proofs.Common.{append_assoc, length-append}
use Rattle.std.specs.Prelude.{IfSome}
use Rattle.std.specs.Option.{option_map}
use Rattle.std.proofs.lemmas.Bool.{cases_Bool}
use Rattle.std.proofs.lemmas.List.Folds.{list_all-append}
use Rattle.vault_text.specs.Hexadecimal.{DecoderState, Decodes, new_decoder, unhex, unhex_on}
use Rattle.vault_text.specs.EnvelopeReader.{InnerHas, InnerState, IsCut, IsOneLine, PartHas}
use Rattle.vault_text.specs.EnvelopeReader.{PartState, next_part}
use Rattle.vault_text.specs.InnerText.{Parts, is_line_feed}
use Rattle.vault_text.specs.declared.reader.inner_text.Part.{Part}
use Rattle.vault_text.specs.declared.reader.inner_text.Part.TheVariants.{Salt, Tag, Ciphertext}
use Rattle.vault_text.proofs.HexadecimalLemmas.{Decodes-more, Decodes-whole}

-- ---- one part

-- the bytes that the digits complete have room after those of the part
pub PartHas-fits : (limit room : ℕ) (bytes digits out text : List ℕ) (old new : DecoderState)
    (is_long : Bool)
    → Decodes old digits out new
    → (kept : List ℕ) → kept ≡ bytes ++ out → length bytes + length out ≤ room
    → PartHas limit (record { bytes = bytes; decoder = old; limit = room; is_long = is_long }) text
    → PartHas limit (record { bytes = kept; decoder = new; limit = room; is_long = is_long })
    (text ++ digits)
PartHas-fits limit room bytes digits out text old new is_long decoded kept is fits has = record {
  same_limit = has.same_limit;
  spelled = has.spelled ++ out;
  decoded = Decodes-more new_decoder old new text digits has.spelled out has.decoded decoded;
  long = λ e. let size = length-append has.spelled out in let before = has.long e in omega arith;
  whole = λ e.
      let same = (has.whole e).0 in
      let size = length-append has.spelled out in
      let limits = has.same_limit in
      let before = ap length same in
      (is ∙ ap (λ xs. xs ++ out) same, omega arith);
}

-- they have no room there
pub PartHas-long : (limit room : ℕ) (bytes kept digits out text : List ℕ) (old new : DecoderState)
    (is_long : Bool)
    → Decodes old digits out new → room < length bytes + length out
    → PartHas limit (record { bytes = bytes; decoder = old; limit = room; is_long = is_long }) text
    → PartHas limit (record { bytes = kept; decoder = new; limit = room; is_long = true })
    (text ++ digits)
PartHas-long limit room bytes kept digits out text old new is_long decoded over has = record {
  same_limit = has.same_limit;
  spelled = has.spelled ++ out;
  decoded = Decodes-more new_decoder old new text digits has.spelled out has.decoded decoded;
  long = λ e.
      let size = length-append has.spelled out in
      let limits = has.same_limit in
      elim (cases_Bool is_long) [
        | inl before ↦ let more = has.long before in omega arith
        | inr now ↦ let same = ap length ((has.whole now).0) in omega arith
      ];
  whole = λ e. cc;
}

pub unhex-bad : (limit : ℕ) (part : PartState) (digits : List ℕ) → PartHas limit part digits
    → unhex_on part.decoder [] ≡ None → unhex digits ≡ None
unhex-bad limit part digits has bad =
    Decodes-whole digits has.spelled part.decoder has.decoded ∙ rw bad refl

pub unhex-long : (limit : ℕ) (part : PartState) (digits : List ℕ) → PartHas limit part digits
    → part.is_long ≡ true → IfSome (unhex digits) (λ bytes. limit < length bytes)
unhex-long limit part digits has long =
    rw (Decodes-whole digits has.spelled part.decoder has.decoded)
    (by_end (unhex_on part.decoder []))
  where
    by_end : (end : Option (List ℕ))
        → IfSome (option_map (λ rest. has.spelled ++ rest) end) (λ bytes. limit < length bytes)
    by_end None = tt
    by_end (Some rest) =
        let more = has.long long in let size = length-append has.spelled rest in omega arith

-- ---- the parts

pub one_line-append : (xs ys : List ℕ) → IsOneLine xs → IsOneLine ys → IsOneLine (xs ++ ys)
one_line-append xs ys p q = rw (list_all-append (λ b. not (is_line_feed b)) xs ys, p, q) refl

module _ (limit : ℕ) where
  -- an LF ends the salt or the tag
  cut-end : (part : Part) (text : List ℕ) (parts : Parts) → (part ≡ Ciphertext → ⊥)
      → IsCut part text parts → IsCut (next_part part) (text ++ 10 ∷ []) parts
  cut-end Salt text parts early is = (rw (is.0, is.2) refl, is.1, rw is.2 refl, is.3)
  cut-end Tag text parts early is = (rw (is.0, is.3) (simp append_assoc), is.1, is.2)
  cut-end Ciphertext text parts early is = absurd (early refl)

  pub InnerHas-end : (inner : InnerState) (text : List ℕ) → (inner.part ≡ Ciphertext → ⊥)
      → InnerHas limit inner text
      → InnerHas limit (record {
        part = next_part inner.part;
        salt = inner.salt;
        tag = inner.tag;
        ciphertext = inner.ciphertext;
      })
      (text ++ 10 ∷ [])
  InnerHas-end inner text early has =
      record {
        digits = has.digits;
        cut = cut-end inner.part text has.digits early has.cut;
        salt = has.salt;
        tag = has.tag;
        ciphertext = has.ciphertext;
      }
