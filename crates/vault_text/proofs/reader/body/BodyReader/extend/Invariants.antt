use Rattle.std.proofs.Common.{ℕ, length}
use Rattle.vault_text.specs.Envelope.{without_line_ends}
use Rattle.vault_text.specs.EnvelopeReader.{BodyHas}
use Rattle.vault_text.specs.Pieces.{TakesUpTo}
use Rattle.vault_text.proofs.reader.body.BodyReader.extend.Given as goal

abbrev pub invariant-loop-rest : goal.invariant-loop-rest
invariant-loop-rest l =
    (limit : ℕ) → TakesUpTo (BodyHas limit) l.fn.self (without_line_ends l.text)
    (without_line_ends l.rest) l.self

abbrev pub decreases-loop-rest : goal.decreases-loop-rest
decreases-loop-rest l = length l.rest
