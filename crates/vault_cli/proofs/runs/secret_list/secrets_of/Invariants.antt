use Rattle.std.proofs.Common.{◌≡◌, drop, length, map, zip}
use Rattle.vault_cli.specs.runs.Task.{secrets_of}
use Rattle.vault_cli.proofs.TaskLemmas.{with_prefix}
use Rattle.vault_cli.proofs.runs.secret_list.secrets_of.Given as goal

abbrev pub invariant-loop-i : goal.invariant-loop-i
invariant-loop-i l =
    (length l.secrets.secrets ≡ l.i) × (l.secrets.rule ≡ l.request.rule)
    × (with_prefix l.secrets.secrets
    (secrets_of (zip (drop l.i l.request.secrets)
    (drop l.i (map (λ file. file.items) l.secret_files))))
    ≡ secrets_of (zip l.request.secrets (map (λ file. file.items) l.secret_files)))
