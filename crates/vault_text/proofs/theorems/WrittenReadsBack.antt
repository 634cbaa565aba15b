-- Reading a written envelope.
use Rattle.std.proofs.Common.{◌≡◌, ℕ, ◌+◌, ◌*◌, ◌/◌, ◌≤◌, Bool, false, not, List, [], ◌∷◌, ◌++◌}
use Rattle.std.proofs.Common.{length, drop, arith, ap, ◌∙◌, refl, append_assoc, length-append}
use Rattle.std.specs.List.{filter}
use Rattle.std.specs.Prelude.{nat_lt}
use Rattle.std.proofs.lemmas.Bool.{lt-leb}
use Rattle.std.proofs.lemmas.List.{drop_at}
use Rattle.hex.specs.Hex.{encode_lower}
use Rattle.vault_text.specs.Envelope.{body, read_within}
use Rattle.vault_text.specs.Header.{is_line_end}
use Rattle.vault_text.specs.Laws.{WrittenReadsBack}
use Rattle.vault_text.specs.Limits.{envelope_limit}
use Rattle.vault_text.specs.Written.{body_lines, digits_per_line, inner_text, text_of_lines}
use Rattle.vault_text.specs.Written.{written, written_header}
use Rattle.vault_text.proofs.WrittenLemmas.{length-encode_lower, length-inner_text}
use Rattle.vault_text.proofs.WrittenLemmas.{text_of_lines-cons, text_of_lines-one}
use Rattle.vault_text.proofs.ListLemmas.{first-clean, encode_lower-clean, filter-clean}
use Rattle.vault_text.proofs.theorems.WrittenBody.{body-reads, body_text-short, filter-body_text}
use Rattle.vault_text.proofs.theorems.WrittenHeader.{header-clean, header-reads, header-short}
use Rattle.vault_text.proofs.theorems.WrittenHeader.{header-starts}

-- the header line, its end, and the lines of the body
written-parts : (label salt tag ciphertext : List ℕ)
    → written label salt tag ciphertext ≡ written_header label ++ 10
    ∷ text_of_lines [] (body_lines (encode_lower (inner_text salt tag ciphertext)))
unfolding written
written-parts label salt tag ciphertext =
    rw (← text_of_lines-cons, text_of_lines-one) (append_assoc (written_header label) (10 ∷ []) _)

pub written_reads_back : WrittenReadsBack
unfolding read_within
written_reads_back limit label salt tag ciphertext good salt_bytes salt_short tag_bytes tag_whole
    ciphertext_bytes ciphertext_short =
    let line = written_header label in
    let inner = inner_text salt tag ciphertext in
    let digits = encode_lower inner in
    let text = text_of_lines [] (body_lines digits) in
    let input = line ++ 10 ∷ text in
    let p : ℕ → Bool = λ b. not (is_line_end b) in
    let inner_size = length-inner_text salt tag ciphertext in
    let size_digits = length-encode_lower inner in
    let count = length digits / digits_per_line + 1 in
    let few : length digits ≤ digits_per_line * count = omega arith in
    let lines = body_text-short count digits few in
    let header = header-short label good in
    let size = length-append line (10 ∷ text) in
    let at = (first-clean is_line_end line 10 text (header-clean label good) refl).0 in
    let spells : body input ≡ digits =
    ap (λ (found : List ℕ). filter p (drop (length found) input)) at
    ∙ ap (filter p) (drop_at line (10 ∷ text) (length line) refl)
    ∙ filter-body_text p refl count digits few
    ∙ filter-clean p digits (encode_lower-clean p refl refl inner) in
    let short : nat_lt (envelope_limit limit) (length input) ≡ false = lt-leb _ _ (omega arith) in
    rw (
      written-parts label salt tag ciphertext,
      short,
      header-starts label (10 ∷ text),
      spells,
      at,
      header-reads label good,
    )
    (body-reads limit label salt tag ciphertext salt_bytes salt_short tag_bytes tag_whole
    ciphertext_bytes ciphertext_short)
