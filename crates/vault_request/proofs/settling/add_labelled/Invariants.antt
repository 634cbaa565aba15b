use Rattle.std.proofs.Common.{◌≡◌, ◌++◌, take}
use Rattle.vault_request.proofs.settling.add_labelled.Given as goal

abbrev pub invariant-loop-found : goal.invariant-loop-found
invariant-loop-found l =
    l.secret_files.items ≡ l.fn.secret_files.items ++ take l.found-index l.labelled
