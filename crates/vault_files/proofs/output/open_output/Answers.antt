use Rattle.std.proofs.Common.{[], ◌∷◌}
use Rattle.std.proofs.lemmas.Result.{MatchResult-from_err}
use Rattle.vault_files.specs.System.SystemCall.{ChmodOwnerOnly, Create, Truncate, Failed}
use Rattle.vault_files.specs.Output.{restricting}
use Rattle.vault_files.specs.Output.FailsToBegin.{to_create, to_restrict, to_truncate}
use Rattle.vault_files.proofs.output.open_output.Goals as goal

pub returns-in_err-file : goal.returns-in_err-file
returns-in_err-file g c =
    MatchResult-from_err c.from_residual.result _ _
    c.from_residual.ensures.0 (λ error. (_, to_create, c.in_err-file.ensures))

pub returns-in_err-restrict : goal.returns-in_err-restrict
returns-in_err-restrict g c =
    let (owner, failed) = c.in_err-restrict.ensures in
    let two = g.met.D.System.executes_more _ _ _ (Create c.args.path.now ∷ [])
    (Failed ChmodOwnerOnly ∷ []) c.in_ok-file.ensures failed in
    MatchResult-from_err c.from_residual-in_err-restrict.result _ _
    c.from_residual-in_err-restrict.ensures.0 (λ error. (_, to_restrict owner, two))

pub returns-in_err-truncate : goal.returns-in_err-truncate
returns-in_err-truncate g c =
    let two = g.met.D.System.executes_more _ _ _ (Create c.args.path.now ∷ [])
    (restricting c.args.access) c.in_ok-file.ensures c.in_ok-restrict.ensures in
    let three = g.met.D.System.executes_more _ _ _
    (Create c.args.path.now ∷ restricting c.args.access) (Failed Truncate ∷ []) two
    c.in_err-truncate.ensures in
    MatchResult-from_err c.from_residual-in_err-truncate.result _ _
    c.from_residual-in_err-truncate.ensures.0 (λ error. (_, to_truncate, three))

pub returns : goal.returns
returns g c =
    let two = g.met.D.System.executes_more _ _ _ (Create c.args.path.now ∷ [])
    (restricting c.args.access) c.in_ok-file.ensures c.in_ok-restrict.ensures in
    g.met.D.System.executes_more _ _ _ (Create c.args.path.now ∷ restricting c.args.access)
    (Truncate ∷ []) two c.in_ok-truncate.ensures
