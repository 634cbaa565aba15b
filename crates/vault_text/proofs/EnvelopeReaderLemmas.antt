-- What is kept of an envelope, and what it gives at its end.
use Rattle.std.proofs.Common.{◌≡◌, ℕ, ◌+◌, ◌-◌, ◌^◌, ◌<◌, ◌≤◌, true, false, not, List, ◌++◌}
use Rattle.std.proofs.Common.{length, take, drop, min, Some, Result, Err, refl, sym, ap}
use Rattle.std.proofs.Common.{◌∙◌, arith, inl, inr, append_assoc, length-append, ◌==◌}
use Rattle.std.specs.Prelude.{if◌then◌else◌, nat_lt, nat_eq}
use Rattle.std.specs.List.{starts_with, list_all}
use Rattle.std.proofs.lemmas.Bool.{cases_lt, cases_Bool, eqb-true}
use Rattle.std.proofs.lemmas.Bool.Decides.{nat_tests}
use Rattle.std.proofs.lemmas.List.{append-nil, drop-append-le, drop-drop, drop_all, drop_at}
use Rattle.std.proofs.lemmas.List.{take-append-le, take-append-drop, length-take}
use Rattle.std.proofs.lemmas.List.Elements.{filter-append}
use Rattle.vault_text.specs.Envelope.{body, read_body, read_head, read_within, without_line_ends}
use Rattle.vault_text.specs.EnvelopeReader.{BodyHas, BodyState, HasRead, InnerHas, InnerState}
use Rattle.vault_text.specs.EnvelopeReader.{IsKept, LineHas, LineState, ReaderState}
use Rattle.vault_text.specs.Header.{header_line, is_line_end, marker, read_header}
use Rattle.vault_text.specs.Hexadecimal.{DecoderState, Decodes, new_decoder, unhex}
use Rattle.vault_text.specs.Limits.{ciphertext_limit, envelope_limit}
use Rattle.vault_text.specs.Pieces.{TakesPiece, TakesUpTo}
use Rattle.vault_text.specs.Steps.{◌>>=◌}
use Rattle.vault_text.specs.declared.limits.TheConstants.{HEADER_LIMIT, PLAINTEXT_LIMIT}
use Rattle.vault_text.specs.declared.fault.TextFault.{TextFault}
use Rattle.vault_text.specs.declared.fault.TextFault.TheVariants.{TooLong, NotVault}
use Rattle.hex.specs.Hex.{is_hex_digit}
use Rattle.vault_text.proofs.HexadecimalBlockLemmas.{spelled_bytes-bad}
use Rattle.vault_text.proofs.HexadecimalLemmas.{Decodes-more, unhex-spelled_bytes}
use Rattle.vault_text.proofs.HeaderLemmas.{header_line-ended, header_line-goes_on}
use Rattle.vault_text.proofs.HeaderLemmas.{header_line-whole, starts_with-header_line}
use Rattle.vault_text.proofs.ListLemmas.{filter-clean, list_all-weaker}

-- ---- the header line

-- as much of a line is kept as shows that it is too long
pub IsKept-more : (kept bytes line : List ℕ) (n : ℕ)
    → n ≡ min (length bytes) (HEADER_LIMIT + 1 - length kept)
    → IsKept kept line → IsKept (kept ++ take n bytes) (line ++ bytes)
IsKept-more kept bytes line n count has =
    let size = length-append kept (take n bytes) in
    let prefix_size = length-take n bytes in
    elim has.enough [
      | inl long ↦
          let none : n ≡ 0 = omega (arith, long, count) in
          record {
            left_out = has.left_out ++ bytes;
            prefix = rw (none, append-nil kept, has.prefix) (append_assoc kept has.left_out bytes);
            enough = inl (omega (arith, long, size));
          }
      | inr whole ↦
          record {
            left_out = drop n bytes;
            prefix =
                rw (has.prefix, whole, append-nil kept)
                (sym (append_assoc kept (take n bytes) (drop n bytes)
                ∙ ap (λ xs. kept ++ xs) (take-append-drop n bytes)));
            enough = elim (cases_lt n (length bytes)) [
              | inl short ↦ inl (omega (arith, short, size, prefix_size, count))
              | inr past ↦ inr (drop_all n bytes past)
            ];
          }
    ]

-- the line has ended: what follows is of the body
pub LineHas-ended : (line : LineState) (input text : List ℕ) → line.has_ended ≡ true
    → LineHas line input
    → LineHas line (input ++ text) × (body (input ++ text) ≡ body input ++ without_line_ends text)
LineHas-ended line input text ended has =
    let inside : length (header_line input) < length input =
    let test = sym ended ∙ has.ended in grind (arith, nat_tests) in
    let same = header_line-ended input text inside in
    let size = length-append input text in
    let test : nat_lt (length (header_line input)) (length (input ++ text)) ≡ true =
    grind (arith, nat_tests) in (
      record { kept = rw same has.kept; ended = rw (same, test) ended },
      rw (same, drop-append-le (length (header_line input)) input text (omega (arith, inside)))
          (filter-append (λ b. not (is_line_end b)) (drop (length (header_line input)) input) text),
    )

-- the line goes on in a text
pub LineHas-more : (old new : LineState) (input text line : List ℕ) → old.has_ended ≡ false
    → line ≡ header_line text
    → new.has_ended ≡ nat_lt (length line) (length text) → TakesPiece IsKept old.kept line new.kept
    → LineHas old input
    → LineHas new (input ++ text)
    × (body (input ++ text) ≡ body input ++ without_line_ends (drop (length line) text))
LineHas-more old new input text line goes_on start ended taken has =
    let past : length input ≤ length (header_line input) =
    let test = sym goes_on ∙ has.ended in grind (arith, nat_tests) in
    let whole = header_line-whole input past in
    let on = header_line-goes_on input text past in
    let size = length-append input text in
    let line_size = length-append input (header_line text) in
    let test : nat_lt (length (header_line text)) (length text)
    ≡ nat_lt (length (input ++ header_line text)) (length (input ++ text)) =
    grind (arith, nat_tests) in (
      record {
        kept = rw (on, ← start) (rw whole at (taken (header_line input) has.kept));
        ended = rw on (ended ∙ rw start test);
      },
      rw (
        on,
        line_size,
        start,
        ← drop-drop (length (header_line text)) (length input) (input ++ text),
        drop_at input text (length input) refl,
        whole,
        drop_all (length input) input (omega arith),
      ) refl,
    )

-- the label of a line, if it begins as every vault does
abbrev head_of : List ℕ → Result (List ℕ) TextFault
head_of line = if not (starts_with nat_eq line marker) then Err NotVault else read_header line

-- once a line is too long, the rest of it changes nothing
head_of-long : (start more : List ℕ) → HEADER_LIMIT < length start
    → head_of start ≡ head_of (start ++ more)
unfolding read_header
head_of-long start more long =
    let starts_alike : starts_with nat_eq (start ++ more) marker ≡ starts_with nat_eq start marker =
    rw (take-append-le (length marker) start more (omega arith)) refl in
    let is_long : nat_lt HEADER_LIMIT (length start) ≡ true = grind (arith, nat_tests) in
    let size = length-append start more in
    let still_long : nat_lt HEADER_LIMIT (length (start ++ more)) ≡ true =
    grind (arith, nat_tests) in
    rw (starts_alike, is_long, still_long) refl

-- what is kept of the line is read as the line
pub read_head-kept : (line : LineState) (input : List ℕ) → LineHas line input
    → head_of line.kept ≡ read_head input
read_head-kept line input has =
    let whole : head_of line.kept ≡ head_of (header_line input) =
    elim has.kept.enough [
      | inl long ↦ head_of-long line.kept has.kept.left_out long ∙ ap head_of (sym has.kept.prefix)
      | inr none ↦
          ap head_of
          (sym (has.kept.prefix ∙ ap (λ xs. line.kept ++ xs) none ∙ append-nil line.kept))
    ] in
    rw (starts_with-header_line marker input refl) whole

-- ---- the body

-- digits that spell bytes, which the reader of the inner text takes
pub BodyHas-more : (limit : ℕ) (old new : DecoderState) (inner next : InnerState)
    (digits bytes : List ℕ)
    → Decodes old digits bytes new → TakesPiece (InnerHas limit) inner bytes next
    → TakesPiece (BodyHas limit) (record { decoder = old; inner = inner }) digits
    (record { decoder = new; inner = next })
BodyHas-more limit old new inner next digits bytes decoded taken text has = record {
  spelled = has.spelled ++ bytes;
  decoded = Decodes-more new_decoder old new text digits has.spelled bytes has.decoded decoded;
  inner = taken has.spelled has.inner;
}

-- ---- the whole envelope

-- a reader that took a piece stands for what it stood for, and the piece
pub HasRead-piece : (old new : ReaderState) (input piece text : List ℕ) → HasRead old input
    → old.limit ≤ PLAINTEXT_LIMIT
    → new.limit ≡ old.limit → new.bytes_read ≡ min (old.bytes_read + length piece) (2 ^ 64 - 1)
    → LineHas new.line (input ++ piece)
    → body (input ++ piece) ≡ body input ++ without_line_ends text
    → ((limit : ℕ) → TakesPiece (BodyHas limit) old.body (without_line_ends text) new.body)
    → HasRead new (input ++ piece)
HasRead-piece old new input piece text stands bound same_limit bytes_read line digits taken =
    let size = length-append input piece in
    let before = stands.no_more in
    record {
      no_more = omega arith;
      exact = λ within.
          let few : old.bytes_read ≤ envelope_limit old.limit = omega arith in
          let counted = stands.exact few in
          omega arith;
      line = line;
      body = rw (same_limit, digits) (taken (ciphertext_limit old.limit) (body input) stands.body);
    }

-- an input that is too long
pub read-long : (reader : ReaderState) (input : List ℕ) → HasRead reader input
    → envelope_limit reader.limit < reader.bytes_read → Err TooLong ≡ read_within reader.limit input
unfolding read_within
read-long reader input stands long =
    let more = stands.no_more in
    let test : nat_lt (envelope_limit reader.limit) (length input) ≡ true =
    grind (arith, nat_tests) in
    rw test refl

-- any other
pub read-short : (reader : ReaderState) (input : List ℕ) → HasRead reader input
    → reader.bytes_read ≤ envelope_limit reader.limit
    → (read_head input >>= (λ label. read_body reader.limit label (body input)))
    ≡ read_within reader.limit input
unfolding read_within
read-short reader input stands short =
    let counted = stands.exact short in
    let test : nat_lt (envelope_limit reader.limit) (length input) ≡ false =
    grind (arith, nat_tests) in
    rw test refl

-- ---- digits are no line ends

digit-no_line_end : (b : ℕ) → is_hex_digit b ≡ true → not (is_line_end b) ≡ true
digit-no_line_end b digit =
    elim (cases_Bool (b == 10)) [
      | inl feed ↦ let clash : false ≡ true = rw (eqb-true b 10 feed) at digit in cc
      | inr other ↦
          elim (cases_Bool (b == 13)) [
            | inl return ↦ let clash : false ≡ true = rw (eqb-true b 13 return) at digit in cc
            | inr last ↦ rw (other, last) refl
          ]
    ]

-- text that spells bytes has no line ends
without_line_ends-digits : (digits bytes : List ℕ) → unhex digits ≡ Some bytes
    → without_line_ends digits ≡ digits
without_line_ends-digits digits bytes spelled =
    elim (cases_Bool (list_all is_hex_digit digits)) [
      | inl all ↦
          filter-clean (λ b. not (is_line_end b)) digits
          (list_all-weaker is_hex_digit _ digit-no_line_end digits all)
      | inr bad ↦
          let none = unhex-spelled_bytes digits ∙ spelled_bytes-bad digits bad in absurd cc
    ]

-- ---- the body

-- the prefix of a text, which spells bytes
pub TakesUpTo-whole_line : (limit : ℕ) (old new : BodyState) (text line rest bytes : List ℕ)
    → unhex line ≡ Some bytes
    → TakesPiece (BodyHas limit) old line new → line ++ rest ≡ text
    → TakesUpTo (BodyHas limit) old (without_line_ends text) (without_line_ends rest) new
TakesUpTo-whole_line limit old new text line rest bytes spelled taken cut =
    let clean = without_line_ends-digits line bytes spelled in
    (line, rw (← cut, filter-append (λ b. not (is_line_end b)) line rest, clean) refl, taken)
