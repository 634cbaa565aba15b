use Rattle.std.proofs.Common.{◌≡◌, ◌⊎◌, ℕ, List, inl, inr}
use Rattle.vault_text.specs.EnvelopeReader.{IsOneLine, MayHave}
use Rattle.vault_text.specs.InnerText.{is_line_feed}
use Rattle.vault_text.specs.declared.reader.inner_text.Part.{Part}
use Rattle.vault_text.specs.declared.reader.inner_text.Part.TheVariants.{Salt, Tag}
use Rattle.vault_text.proofs.ListLemmas.{before_first-clean_prefix}
use Rattle.vault_text.proofs.reader.inner_text.Part.split.Goals as goal

may_have-line : (part : Part) (digits : List ℕ) → (part ≡ Salt) ⊎ (part ≡ Tag) → IsOneLine digits
    → MayHave part digits
may_have-line part digits (inl salt) line = rw salt line
may_have-line part digits (inr tag) line = rw tag line

pub returns-in-Salt-clause-digits : goal.returns-in-Salt-clause-digits
returns-in-Salt-clause-digits c =
    may_have-line c.args.self _ c.in-Salt.is
    (rw c.split_at_byte.ensures.before (before_first-clean_prefix is_line_feed c.args.text.now))
