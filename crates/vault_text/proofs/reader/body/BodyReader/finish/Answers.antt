use Rattle.std.proofs.Common.{refl}
use Rattle.std.proofs.lemmas.List.{append-nil}
use Rattle.vault_text.specs.Envelope.{read_body}
use Rattle.vault_text.proofs.HexadecimalLemmas.{Decodes-whole}
use Rattle.vault_text.proofs.reader.body.BodyReader.finish.Goals as goal

pub returns-then-not-is_complete : goal.returns-then-not-is_complete
unfolding read_body
returns-then-not-is_complete c limit digits has =
    let here = rw (← c.self.view_is) at has in
    let bad = rw c.if-not-is_complete.true at c.is_complete.ensures in
    rw (Decodes-whole digits here.spelled _ here.decoded, bad) refl

pub returns : goal.returns
unfolding read_body
returns c limit digits has =
    let here = rw (← c.self.view_is) at has in
    let good = rw c.if-not-is_complete.false at c.is_complete.ensures in
    rw (
      c.finish.ensures limit here.spelled here.inner,
      Decodes-whole digits here.spelled _ here.decoded,
      good,
      append-nil here.spelled,
    ) refl
