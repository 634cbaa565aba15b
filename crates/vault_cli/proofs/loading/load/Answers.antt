use Rattle.std.proofs.Common.{IfErr, OnOk, Result, Ok, Err}
use Rattle.std.proofs.lemmas.Result.{IfErr-weaker, err_from_is_err_and}
use Rattle.vault_cli.proofs.LoadedLemmas.{at_path-back, refused-input, refused-salt}
use Rattle.vault_cli.proofs.LoadedLemmas.{refused-secrets, salt-back}
use Rattle.vault_files.specs.System.{Opens}
use Rattle.vault_files.specs.SystemProofs.{Opens-more, Opens-finds}
use Rattle.vault_cli.proofs.loading.load.Goals as goal

pub returns-in_err-read_secret_files-clause-refused :
    goal.returns-in_err-read_secret_files-clause-refused
returns-in_err-read_secret_files-clause-refused g c =
    let old = c.args.sys.now in
    let p = err_from_is_err_and c.from_residual.result c.from_residual.ensures.1 in
    rw (p.1, p.2) (refused-secrets (g.D.System.finds old) (g.met.D.System.finds_some old)
    (λ paths. Opens g.D.System.executes old paths c.read_secret_files.new.sys)
    c.args.request.now _ c.in_err-read_secret_files.ensures.refused)

pub returns-in_err-read_salt-clause-refused : goal.returns-in_err-read_salt-clause-refused
returns-in_err-read_salt-clause-refused g c =
    let finds = g.D.System.finds in
    let executes = g.D.System.executes in
    let opens = g.met.D.System.opens_finds in
    let old = c.args.sys.now in
    let middle = c.read_secret_files.new.sys in
    let new = c.read_salt.new.sys in
    let first = c.in_ok-read_secret_files.ensures in
    let p = err_from_is_err_and c.from_residual-in_err-read_salt.result
    c.from_residual-in_err-read_salt.ensures.1 in
    rw (p.1, p.2) (refused-salt (finds old) (g.met.D.System.finds_some old)
    (λ paths. Opens g.D.System.executes old paths new) c.args.request.now _ _ first.read
    (salt-back (finds old) (finds middle)
    (λ path file. Opens-finds executes finds opens old middle _ path file first.opens) _ _
    c.in_err-read_salt.ensures.refused)
    (Opens-more executes g.met.D.System.executes_more old middle new _ _ first.opens
    c.in_err-read_salt.ensures.opens))

err-both : {T E : Type 0} (r : Result T E) (P Q : E → Type 0) → IfErr r P → IfErr r Q
    → IfErr r (λ e. P e × Q e)
err-both (Ok x) P Q p q = tt
err-both (Err e) P Q p q = (p, q)

pub returns-clause-refused : goal.returns-clause-refused
returns-clause-refused g c =
    let finds = g.D.System.finds in
    let executes = g.D.System.executes in
    let opens = g.met.D.System.opens_finds in
    let more = g.met.D.System.executes_more in
    let old = c.args.sys.now in
    let middle = c.read_secret_files.new.sys in
    let last = c.read_salt.new.sys in
    let new = c.open_input.new.sys in
    let first = c.in_ok-read_secret_files.ensures in
    let second = c.in_ok-read_salt.ensures in
    let both = Opens-more executes more old middle last _ _ first.opens second.opens in
    let refused = c.open_input.ensures in
    IfErr-weaker c.open_input.result _ _ (λ fault (is, missing).
    refused-input (finds old) (g.met.D.System.finds_some old)
    (λ paths. Opens g.D.System.executes old paths new) c.args.request.now fault _ first.read _
    (salt-back (finds old) (finds middle)
    (λ path file. Opens-finds executes finds opens old middle _ path file first.opens) _ _
    second.read) is
    (at_path-back (finds old) (finds last)
    (λ path file. Opens-finds executes finds opens old last _ path file both) _ _ missing)
    (Opens-more executes more old last new _ _ both refused.opens))
    (err-both c.open_input.result _ _ refused.fault refused.missing)

on-ok : {T E : Type 0} (r : Result T E) (P : Type 0) → P → OnOk r P
on-ok (Ok x) P p = p
on-ok (Err e) P p = tt

pub returns-clause-opens : goal.returns-clause-opens
returns-clause-opens g c =
    let old = c.args.sys.now in
    let request = c.args.request.now in
    let last = c.read_salt.new.sys in
    let new = c.open_input.new.sys in
    let executes = g.D.System.executes in
    let more = g.met.D.System.executes_more in
    let both = Opens-more executes more old c.read_secret_files.new.sys last _ _
    c.in_ok-read_secret_files.ensures.opens c.in_ok-read_salt.ensures.opens in
    on-ok c.open_input.result _
    (Opens-more executes more old last new _ _ both c.open_input.ensures.opens)
