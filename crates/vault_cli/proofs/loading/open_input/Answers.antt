use Rattle.std.proofs.Common.{◌≡◌, [], rules, tests}
use Rattle.std.specs.Prelude.{option_to_list}
use Rattle.vault_files.specs.SystemProofs.{Opens-none}
use Rattle.vault_cli.proofs.loading.open_input.Goals as goal

pub returns-in_default-clause-opens : goal.returns-in_default-clause-opens
returns-in_default-clause-opens g c =
    let none : option_to_list c.args.request.now.input ≡ [] = search (rules, tests) in
    rw none (Opens-none g.D.System.executes g.met.D.System.executes_none c.args.sys.now)
