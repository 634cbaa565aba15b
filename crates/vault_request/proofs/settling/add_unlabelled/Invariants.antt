use Rattle.std.proofs.Common.{◌≡◌, ◌++◌, map, take}
use Rattle.vault_request.specs.Settled.{file_of_path}
use Rattle.vault_request.proofs.settling.add_unlabelled.Given as goal

abbrev pub invariant-loop-path : goal.invariant-loop-path
invariant-loop-path l =
    l.secret_files.items ≡ l.fn.secret_files.items
    ++ map file_of_path (map (λ path. path.now) (take l.path-index l.paths))
