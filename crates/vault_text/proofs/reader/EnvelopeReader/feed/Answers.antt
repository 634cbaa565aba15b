use Rattle.std.proofs.Common.{refl}
use Rattle.vault_text.proofs.EnvelopeReaderLemmas.{HasRead-piece}
use Rattle.vault_text.proofs.reader.EnvelopeReader.feed.Goals as goal

pub returns-clause-taken : goal.returns-clause-taken
returns-clause-taken c input stands =
    let line = c.extend-rest.ensures in
    let here = rw (← c.self.view_is) at stands in
    HasRead-piece _ _ input c.args.piece.now c.extend-rest.result.now here c.self.invariant refl
    c.saturating_add-self-inside.ensures
    (line.line input here.line) (line.body input here.line) c.extend.ensures
