use Rattle.std.proofs.Common.{Ok, Some, ap, arith, length, map, refl}
use Rattle.std.proofs.lemmas.List.{with_items_is}
use Rattle.vault_cli.specs.Call.{source, system}
use Rattle.vault_cli.proofs.DriveLemmas.{drives-file, drives-refused, drives-stdin, drives-without}
use Rattle.vault_cli.proofs.program.drive_request.Goals as goal

pub returns-in-Err : goal.returns-in-Err
returns-in-Err g c =
    drives-without (system g.D.System c.args.sys.now c.args.sys.now)
    (source g.S.Source c.args.src.now c.args.src.now) _ _ _ refl refl c.from.result
    c.report.ensures.status c.report.ensures.line refl c.from.ensures
    (Some (Ok c.args.request.now))

pub returns-in-Ok-Some : goal.returns-in-Ok-Some
returns-in-Ok-Some g c =
    let read = with_items_is c.in-Ok.memory.secret_files c.load.new.secret_files
    (omega (arith, c.in-Ok-Some.ensures.count, ap length c.deref_mut.ensures.value)) in
    drives-file (system g.D.System c.args.sys.now c.run_to_output.new.sys)
    (source g.S.Source c.args.src.now c.args.src.now) _ _ _ c.args.request.now
    (map (λ file. file.items) c.load.new.secret_files) c.load.new.salt.items
    c.in-Ok-Some.ensures.secrets c.in-Ok-Some.ensures.salt c.load.new.sys
    c.in-Ok-Some.ensures.opens refl (g.D.System.reader_at c.args.sys.now)
    (source g.D.Reader.Source c.in-Ok-Some.reader c.run_to_output.new.src)
    (rw c.in-Ok-Some.field-0-is at c.in-Ok-Some.ensures.input)
    (g.met.D.Reader.Source.gives_none c.in-Ok-Some.reader)
    (g.met.D.System.prefix_found c.args.sys.now)
    (g.met.D.System.break_found c.args.sys.now) (rw read at c.run_to_output.ensures)

pub returns-in-Ok-None : goal.returns-in-Ok-None
returns-in-Ok-None g c =
    let read = with_items_is c.in-Ok.memory.secret_files c.load.new.secret_files
    (omega (arith, c.in-Ok-None.ensures.count, ap length c.deref_mut.ensures.value)) in
    drives-stdin (system g.D.System c.args.sys.now c.run_to_output-in-Ok-None.new.sys)
    (source g.S.Source c.args.src.now c.run_to_output-in-Ok-None.new.src) _ _ _
    c.args.request.now (map (λ file. file.items) c.load.new.secret_files)
    c.load.new.salt.items c.in-Ok-None.ensures.secrets c.in-Ok-None.ensures.salt
    c.load.new.sys c.in-Ok-None.ensures.opens (g.D.System.reader_at c.args.sys.now)
    (rw c.in-Ok-None.field-0-is at c.in-Ok-None.ensures.input)
    (rw read at c.run_to_output-in-Ok-None.ensures)

pub returns-in-Err-load : goal.returns-in-Err-load
returns-in-Err-load g c =
    drives-refused (system g.D.System c.args.sys.now c.load.new.sys)
    (source g.S.Source c.args.src.now c.args.src.now) _ _ _ refl refl c.in-Err-load.fault
    c.report-in-Err-load.ensures.status c.report-in-Err-load.ensures.line c.args.request.now
    c.in-Err-load.ensures.memory_suffices c.in-Err-load.ensures.refused
