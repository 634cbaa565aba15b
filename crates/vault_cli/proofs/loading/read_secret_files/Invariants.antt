use Rattle.std.proofs.Common.{◌≡◌, drop, length, map, take}
use Rattle.std.specs.Prelude.{All}
use Rattle.vault_cli.specs.runs.FileContents.{secret_paths}
use Rattle.vault_request.specs.Request.{files_of}
use Rattle.vault_cli.proofs.FileContentsLemmas.{GivesPrefix, IsLong}
use Rattle.vault_files.specs.System.{Opens}
use Rattle.vault_cli.proofs.loading.read_secret_files.Given as goal

abbrev pub invariant-loop-i : goal.invariant-loop-i
invariant-loop-i g l =
    (length l.bufs ≡ length (files_of l.request))
    × GivesPrefix (g.D.System.finds l.initial.sys) (secret_paths l.request) l.i
    (map (λ file. file.items) (take l.i l.bufs))
    × Opens g.D.System.executes l.initial.sys (take l.i (secret_paths l.request)) l.sys
    × All IsLong (drop l.i l.bufs)
