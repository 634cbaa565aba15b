-- The two groups of secrets that are tried one after the other.
use Rattle.std.specs.Prelude.{ℕ, not, Bool, List}
use Rattle.vault_core.specs.Secrets.{Secret, has_label}
use Rattle.vault_core.specs.declared.tried_secrets.Group.{Group}
use Rattle.vault_core.specs.declared.tried_secrets.Group.TheVariants.{SameLabel, OtherLabels}

-- whether a secret is in a group: the secrets with the label, or the secrets with other labels
abbrev pub is_member : Group → List ℕ → Secret → Bool
is_member SameLabel label = has_label label
is_member OtherLabels label = λ secret. not (has_label label secret)
