use Rattle.std.proofs.Common.{◌≡◌, drop, map, take}
use Rattle.vault_request.specs.Settled.{file_of_id}
use Rattle.vault_request.specs.VaultId.{first_fault}
use Rattle.vault_request.proofs.vault_id.parse_all.Given as goal

abbrev pub invariant-loop-id : goal.invariant-loop-id
invariant-loop-id l =
    (l.secret_files.items ≡ map file_of_id (map (λ id. id.now) (take l.id-index l.ids)))
    × (first_fault (map (λ id. id.now) (drop l.id-index l.ids))
    ≡ first_fault (map (λ id. id.now) l.ids))
