use Rattle.std.proofs.Common.{arith, sym, ◌∙◌}
use Rattle.std.proofs.lemmas.Result.{err_from_is_err_and}
use Rattle.vault_text.proofs.EnvelopeReaderLemmas.{read-long, read-short}
use Rattle.vault_text.proofs.reader.EnvelopeReader.finish.Goals as goal

pub returns-then-bytes_read-envelope_limit : goal.returns-then-bytes_read-envelope_limit
returns-then-bytes_read-envelope_limit c input stands =
    rw (← c.self.view_is) (read-long _ input (rw (← c.self.view_is) at stands)
    (omega (arith, c.if-bytes_read-envelope_limit.true, c.envelope_limit.ensures.value)))

pub returns-in_err-label : goal.returns-in_err-label
returns-in_err-label c input stands =
    let here = rw (← c.self.view_is) at stands in
    let p = err_from_is_err_and c.from_residual.result c.from_residual.ensures.1 in
    rw (p.1, p.2, ← c.self.view_is)
    (rw (sym (c.finish.ensures input here.line) ∙ c.in_err-label.was)
    at (read-short _ input here
    (omega (arith, c.if-bytes_read-envelope_limit.false, c.envelope_limit.ensures.value))))

pub returns : goal.returns
returns c input stands =
    let here = rw (← c.self.view_is) at stands in
    rw (c.finish-2.ensures _ _ here.body, ← c.self.view_is)
    (rw (sym (c.finish.ensures input here.line) ∙ c.in_ok-label.was)
    at (read-short _ input here
    (omega (arith, c.if-bytes_read-envelope_limit.false, c.envelope_limit.ensures.value))))
