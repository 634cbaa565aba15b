use Rattle.std.proofs.Common.{append_assoc, ◌∙◌}
use Rattle.vault_text.proofs.WrittenLemmas.{encode_lower-nil}
use Rattle.vault_text.proofs.writing.body.salt_and_tag.Goals as goal

pub returns-clause-text : goal.returns-clause-text
returns-clause-text c =
    c.append-4.ensures.text
    ∙ rw (
      c.append-3.ensures.text,
      c.append-2.ensures.text,
      c.append.ensures.text,
      c.new-inner.ensures,
      c.digits_of.ensures.digits,
      c.digits_of-2.ensures.digits,
      c.as_bytes.ensures.bytes,
      encode_lower-nil,
    ) (simp append_assoc)
