use Rattle.std.proofs.lemmas.List.{take_rest}
use Rattle.vault_text.proofs.HeaderLemmas.{without_line_ends-run}
use Rattle.vault_text.proofs.reader.body.BodyReader.extend_chunk.Goals as goal

pub returns-clause-taken : goal.returns-clause-taken
returns-clause-taken c limit =
    let run = rw (← c.before_line_end-digits.ensures.line)
    at (without_line_ends-run c.args.text.now c.min.result) in
    let untouched = rw c.in_default.is at c.extend_line.ensures.untouched in (
      c.before_line_end-digits.result.now,
      rw take_rest run,
      rw (← untouched) (c.extend_digits.ensures limit),
    )
