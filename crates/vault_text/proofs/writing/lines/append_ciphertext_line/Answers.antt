use Rattle.std.proofs.lemmas.List.{take-append-drop}
use Rattle.vault_text.proofs.WrittenLemmas.{encode_lower-halves, four_appends}
use Rattle.vault_text.proofs.writing.lines.append_ciphertext_line.Goals as goal

pub returns-clause-text : goal.returns-clause-text
returns-clause-text c =
    let digits = c.digits_of-digits.result.now in
    let halves = c.split_at.result in
    let spelled = encode_lower-halves digits halves.0.now halves.1.now
    (rw (c.split_at.ensures.front, c.split_at.ensures.back) (take-append-drop _ digits)) in
    rw (
      ← c.digits_of-digits.ensures.digits,
      spelled,
      ← c.digits_of.ensures.digits,
      ← c.digits_of-2.ensures.digits,
    )
    (four_appends _ _ _ _ _ _ _ _ _ c.append.ensures.text c.append-2.ensures.text
    c.append-3.ensures.text c.append-4.ensures.text)
