use Rattle.std.proofs.Common.{refl}
use Rattle.std.proofs.lemmas.List.{take-append-drop}
use Rattle.vault_text.specs.declared.line.TheConstants.{LINE_DIGITS}
use Rattle.vault_text.proofs.EnvelopeReaderLemmas.{BodyHas-more, TakesUpTo-whole_line}
use Rattle.vault_text.proofs.reader.body.BodyReader.extend_line.Goals as goal

pub returns-clause-taken : goal.returns-clause-taken
returns-clause-taken c limit =
    let cut = c.in_ok-line.ensures.cases in
    let text = take-append-drop LINE_DIGITS c.args.text.now in
    let whole = c.if-not-decode_whole.ensures in
    let taken = BodyHas-more limit _ _ _ _ _ _ (whole.decoded refl) (c.extend.ensures limit) in
    rw (← c.self.view_is) (TakesUpTo-whole_line limit _ _ c.args.text.now _ c.in_ok-line.rest.now _
    (whole.good refl) taken (rw (cut.1, cut.2) text))
