use Rattle.vault_text.proofs.EnvelopeReaderLemmas.{BodyHas-more}
use Rattle.vault_text.proofs.reader.body.BodyReader.extend_digits.Goals as goal

pub returns : goal.returns
returns c limit =
    rw (← c.self.view_is)
    (BodyHas-more limit _ _ _ _ _ _ c.decode-count.ensures.decoded (c.extend.ensures limit))
