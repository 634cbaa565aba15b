use Rattle.std.proofs.Common.{sym, ◌∙◌}
use Rattle.vault_text.proofs.EnvelopeReaderLemmas.{read_head-kept}
use Rattle.vault_text.proofs.reader.header_line.HeaderLine.finish.Goals as goal

pub returns-then-not-starts_with : goal.returns-then-not-starts_with
returns-then-not-starts_with c input has =
    let test = rw c.as_slice.ensures.value
    at (sym c.starts_with.ensures.value ∙ c.if-not-starts_with.true) in
    rw test at (read_head-kept _ input (rw (← c.self.view_is) at has))

pub returns : goal.returns
returns c input has =
    let test = rw c.as_slice.ensures.value
    at (sym c.starts_with.ensures.value ∙ c.if-not-starts_with.false) in
    rw (c.read_header.ensures, c.as_slice-2.ensures.value)
    (rw test at (read_head-kept _ input (rw (← c.self.view_is) at has)))
