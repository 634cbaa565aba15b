use Rattle.std.proofs.Common.{refl}
use Rattle.clap.specs.Words.{subcommand_rows_of}
use Rattle.vault_request.specs.Settled.{requested}
use Rattle.vault_cli.specs.Call.{sink, source, system}
use Rattle.vault_cli.specs.Drive.Ends.{Stopped}
use Rattle.vault_cli.proofs.DriveLemmas.{drives-settled, drives-unsettled}
use Rattle.vault_cli.proofs.program.drive_over.Goals as goal

pub returns : goal.returns
returns g c = Stopped refl refl c.explain.ensures

pub returns-in-Ok-settle : goal.returns-in-Ok-settle
returns-in-Ok-settle g c =
    let drives = drives-settled (system g.D.System c.args.sys.now c.drive_request.new.sys)
    (source g.S.Source c.args.src.now c.drive_request.new.src) _ _ _
    (requested (subcommand_rows_of c.in-Ok.matches)) c.in-Ok-settle.request
    c.in-Ok.ensures.requested c.in-Ok-settle.ensures c.drive_request.ensures in
    rw c.in-Ok.ensures.kinds (rw c.in-Ok.ensures.matches at drives)

pub returns-in-Ok : goal.returns-in-Ok
returns-in-Ok g c =
    let drives = drives-unsettled (system g.D.System c.args.sys.now c.args.sys.now)
    (source g.S.Source c.args.src.now c.args.src.now)
    (sink g.K.Sink c.args.out.now c.args.out.now)
    (sink g.E.Sink c.args.err.now c.report.new.err) _ refl refl c.in-Err-settle.fault
    c.report.ensures.status c.report.ensures.line refl
    (requested (subcommand_rows_of c.in-Ok.matches)) c.in-Ok.ensures.requested
    c.in-Err-settle.ensures in
    rw c.in-Ok.ensures.kinds (rw c.in-Ok.ensures.matches at drives)
