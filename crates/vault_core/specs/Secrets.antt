-- Secrets, and the order in which they are tried.
use Rattle.std.specs.Prelude.{ℕ, not, Bool, List, [], ◌++◌, filter, slice_index_or}
use Rattle.std.specs.Str.{bytes_eq}
use Rattle.vault_fault.specs.declared.label_rule.LabelRule.{LabelRule}
use Rattle.vault_fault.specs.declared.label_rule.LabelRule.TheVariants.{Hint, Required}

-- a password under a label
pub record Secret : Type 0 where
  pub label : List ℕ
  pub password : List ℕ

-- secrets in the order in which they were given, and what an envelope's label means for them
pub record SecretList : Type 0 where
  pub secrets : List Secret
  pub rule : LabelRule

-- the secret at an index, from 0; an empty one past the end
abbrev pub secret_at : ℕ → List Secret → Secret
secret_at index secrets = slice_index_or secrets index (record { label = []; password = [] })

-- whether the secret has this label
abbrev pub has_label : List ℕ → Secret → Bool
has_label label secret = bytes_eq secret.label label

-- the secrets that are tried after the ones with the label: the others if the label is a hint, none
-- if it is required
abbrev pub tried_after : LabelRule → List ℕ → List Secret → List Secret
tried_after Hint label secrets = filter (λ secret. not (has_label label secret)) secrets
tried_after Required label secrets = []

-- the secrets with an envelope's label, and then the secrets that are tried after them, both in the
-- order of the list
unfoldable pub tried_order : SecretList → List ℕ → List Secret
tried_order list label =
    filter (has_label label) list.secrets ++ tried_after list.rule label list.secrets
