use Rattle.std.proofs.Common.{◌∙◌, ap, refl, rules, sym}
use Rattle.std.specs.Option.{option_copied}
use Rattle.vault_cli.specs.Access.{output_access}
use Rattle.vault_cli.specs.Call.{sink, source, system}
use Rattle.vault_cli.proofs.RunOutputLemmas.{ends-file, ends-out, ends-same}
use Rattle.vault_cli.proofs.program.run_to_output.Goals as goal

pub returns-in-None : goal.returns-in-None
returns-in-None g c =
    ends-out (source g.S.Source c.args.src.now c.run_reserved.new.src) _ _ _ _
    (system g.D.System c.args.sys.now c.args.sys.now)
    (sink g.K.Sink c.args.out.now c.run_reserved.new.out)
    (output_access c.args.request.now.command) c.args.request.now.output
    (sym c.output.ensures ∙ ap option_copied c.in-None.is) refl
    c.run_reserved.ensures.ends

pub returns-in-Some : goal.returns-in-Some
returns-in-Some g c =
    let ends = c.run_reserved-status.ensures.ends in
    let src = source g.S.Source c.args.src.now c.run_reserved-status.new.src in
    let file = c.new-file.result in
    let left = c.run_reserved-status.new.out in
    let same = ends-same g.D.System file left src _ _ _ _ ends in
    ends-file g.D.System file left src _ _ _ _
    (sink g.K.Sink c.args.out.now c.args.out.now) refl c.in-Some.path.now
    (output_access c.args.request.now.command) c.args.sys.now _
    c.new-file.ensures.system
    (rw (c.output_access.ensures, c.command.ensures) at c.new-file.ensures.chosen)
    c.new-file.ensures.failures (search (rules, same))
    c.args.request.now.output (sym c.output.ensures ∙ ap option_copied c.in-Some.is) ends
