use Rattle.std.proofs.Common.{◌≡◌, ◌+◌, ◌<◌, ℕ, List, length}
use Rattle.vault_text.specs.EnvelopeReader.{HasRead}
use Rattle.vault_text.specs.Failures.{u64_max}
use Rattle.vault_text.specs.Limits.{envelope_limit}
use Rattle.vault_text.specs.Pieces.{TakesPiece}
use Rattle.vault_core.proofs.input.feed_input.Given as goal

abbrev pub invariant-loop-left : goal.invariant-loop-left
invariant-loop-left g l =
    (input : List ℕ) × record {
      gives : g.S.Source.gives l.fn.src input l.src;
      left : length input + l.left ≡ envelope_limit l.fn.reader.limit + 1;
      limit : l.reader.limit ≡ l.fn.reader.limit;
      taken : TakesPiece HasRead l.fn.reader input l.reader;
      failures : g.S.Source.failures l.src ≡ g.S.Source.failures l.fn.src;
      full : 0 < length input → g.S.Source.failures l.fn.src < u64_max;
    }

abbrev pub decreases-loop-left : goal.decreases-loop-left
decreases-loop-left g l = l.left
