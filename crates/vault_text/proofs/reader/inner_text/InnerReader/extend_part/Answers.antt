use Rattle.std.proofs.Common.{◌++◌, ◌∷◌, [], sym, ap, ◌∙◌, append_assoc}
use Rattle.std.proofs.lemmas.List.{append-nil}
use Rattle.vault_text.proofs.InnerReaderLemmas.{InnerHas-end}
use Rattle.vault_text.proofs.reader.inner_text.InnerReader.extend_part.Goals as goal

pub returns-in_default-clause-taken : goal.returns-in_default-clause-taken
returns-in_default-clause-taken c limit =
    let whole = rw c.in_default.is at c.split.ensures.whole in
    (_, whole ∙ sym (append-nil _), c.extend_digits.ensures.taken limit)

pub returns-clause-taken : goal.returns-clause-taken
returns-clause-taken c limit =
    let digits = c.split.result.0.now in
    let cut = rw c.in-Some.is at c.split.ensures.cut in
    let early = rw c.in-Some.is at c.split.ensures.early in
    let same = rw (← c.self-2.view_is) at c.extend_digits.ensures.part in (
      digits ++ 10 ∷ [],
      cut ∙ sym (append_assoc digits (10 ∷ []) _),
      λ text has.
          let taken = rw (← c.self-2.view_is) at (c.extend_digits.ensures.taken limit text has) in
          rw (c.next-self-inside.ensures, ← append_assoc text digits (10 ∷ []))
          (InnerHas-end limit _ (text ++ digits)
          (λ late. early (ap (λ inner. inner.part) c.self.view_is ∙ sym same ∙ late)) taken),
    )
