use Rattle.std.proofs.Common.{ℕ, ◌≤◌, length}
use Rattle.vault_text.specs.EnvelopeReader.{InnerHas}
use Rattle.vault_text.specs.Pieces.{TakesUpTo}
use Rattle.vault_text.proofs.reader.inner_text.InnerReader.extend.Given as goal

abbrev pub invariant-loop-rest : goal.invariant-loop-rest
invariant-loop-rest l =
    (length l.rest ≤ length l.text)
    × ((limit : ℕ) → TakesUpTo (InnerHas limit) l.fn.self l.text l.rest l.self)

abbrev pub decreases-loop-rest : goal.decreases-loop-rest
decreases-loop-rest l = length l.rest
