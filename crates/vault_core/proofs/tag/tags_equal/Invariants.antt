use Rattle.vault_core.proofs.TriedSecretsLemmas.{CarriesPrefixesOver}
use Rattle.vault_core.proofs.tag.tags_equal.Given as goal

abbrev pub invariant-loop-i : goal.invariant-loop-i
invariant-loop-i l = CarriesPrefixesOver l.one l.other l.i l.differences
