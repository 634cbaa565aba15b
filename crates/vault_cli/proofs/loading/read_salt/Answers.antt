use Rattle.std.proofs.Common.{◌≡◌, [], rules, tests}
use Rattle.std.specs.Prelude.{option_to_list}
use Rattle.std.proofs.lemmas.Result.{IfErr-weaker, on_ok_weaker}
use Rattle.vault_cli.proofs.LoadedLemmas.{salt-found}
use Rattle.vault_files.specs.SystemProofs.{Opens-none}
use Rattle.vault_cli.proofs.loading.read_salt.Goals as goal

pub returns-in-Some-clause-read : goal.returns-in-Some-clause-read
returns-in-Some-clause-read g c =
    on_ok_weaker c.fill_from.result
    (salt-found (g.D.System.finds c.args.sys.now) _ _ _ _
    (rw c.in-Some.is at c.salt_path.ensures) c.requires.length) c.fill_from.ensures.read

pub returns-in-Some-clause-refused : goal.returns-in-Some-clause-refused
returns-in-Some-clause-refused g c =
    IfErr-weaker c.fill_from.result _ _
    (λ fault. salt-found (g.D.System.finds c.args.sys.now) _ _ _ _
    (rw c.in-Some.is at c.salt_path.ensures) c.requires.length) c.fill_from.ensures.refused

pub returns-in-None-clause-opens : goal.returns-in-None-clause-opens
returns-in-None-clause-opens g c =
    let none : option_to_list c.args.request.now.salt_path ≡ [] = search (rules, tests) in
    rw none (Opens-none g.D.System.executes g.met.D.System.executes_none c.args.sys.now)
