use Rattle.std.proofs.Common.{◌≡◌, ◌+◌, ◌≤◌, drop}
use Rattle.std.specs.Prelude.{find}
use Rattle.vault_core.specs.TriedSecrets.{matches, tries}
use Rattle.vault_core.proofs.TriedSecretsLemmas.{tried_group}
use Rattle.vault_core.proofs.tried_secrets.search_group.Given as goal

abbrev pub invariant-loop-secret : goal.invariant-loop-secret
invariant-loop-secret l =
    let all = tried_group l.group l.payload.label l.secrets in
    let left = tried_group l.group l.payload.label (drop l.secret-index l.secrets) in
    record {
      found : find (matches l.payload) left ≡ find (matches l.payload) all;
      tried : l.tried + tries l.payload left ≡ tries l.payload all;
      counted : l.meter ≡ l.fn.meter + l.tried;
      few : l.tried ≤ l.secret-index;
    }
