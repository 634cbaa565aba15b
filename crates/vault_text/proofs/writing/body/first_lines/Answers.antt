use Rattle.std.proofs.Common.{◌≡◌, ◌++◌, length, arith, ◌∙◌, inl, inr}
use Rattle.std.proofs.lemmas.Bool.{cases_lt}
use Rattle.std.proofs.lemmas.List.{drop_all, take-append-drop}
use Rattle.vault_text.proofs.WrittenLemmas.{inner_text-split}
use Rattle.vault_text.proofs.writing.body.first_lines.Goals as goal

pub returns-clause-text : goal.returns-clause-text
returns-clause-text c =
    let ciphertext = c.args.ciphertext.now in
    let both : c.split_at.result.0.now ++ c.split_at.result.1.now ≡ ciphertext =
    rw (c.split_at.ensures.front, c.split_at.ensures.back)
    (take-append-drop c.min.result ciphertext) in
    inner_text-split _ _ _ _ _ _ _ c.salt_and_tag-inner.ensures.text
    (rw c.digits_of.ensures.digits at c.append.ensures.text) both

pub returns-clause-full : goal.returns-clause-full
returns-clause-full c =
    let ciphertext = c.args.ciphertext.now in
    elim (cases_lt c.min.result (length ciphertext)) [
      | inl some ↦ inl (omega arith)
      | inr none ↦ inr (c.split_at.ensures.back ∙ drop_all c.min.result ciphertext none)
    ]
