use Rattle.std.proofs.Common.{rules, arith, ◌<◌, ◌≤◌, ◌+◌, ◌∷◌, ◌∙◌, [], length, length-set, take}
use Rattle.std.proofs.lemmas.List.{length-map, map-append, take_all, take_more_set}
use Rattle.std.proofs.lemmas.Result.{err_from_is_err_and}
use Rattle.vault_fault.specs.declared.fault.Role.TheVariants.{Secret}
use Rattle.vault_core.specs.declared.limits.TheConstants.{PASSWORD_FILE_LIMIT}
use Rattle.vault_request.specs.Request.{files_of}
use Rattle.vault_cli.specs.runs.FileContents.{secret_paths}
use Rattle.vault_cli.proofs.FileContentsLemmas.{ContentsFound-all, GivesPrefix-more, next-long}
use Rattle.vault_cli.proofs.FileContentsLemmas.{PrefixFound-before, next_path, secrets-refuse}
use Rattle.vault_files.specs.System.{Opens}
use Rattle.vault_files.specs.SystemProofs.{Opens-none, Opens-more, Opens-finds}
use Rattle.vault_cli.proofs.loading.read_secret_files.Goals as goal

pub returns-in_err-fill_from-clause-refused : goal.returns-in_err-fill_from-clause-refused
returns-in_err-fill_from-clause-refused g c =
    let finds = g.D.System.finds in
    let executes = g.D.System.executes in
    let opens = g.met.D.System.opens_finds in
    let old = c.args.sys.now in
    let new = c.fill_from.new.sys in
    let path = c.path.result.now in
    let kept = c.loop-i.invariant in
    let inside : c.loop-i.i < length (files_of c.args.request.now) =
    omega (arith, c.loop-i-test.true, c.files-i-end.ensures.count) in
    let next = next_path c.args.request.now c.loop-i.i path inside c.path.ensures in
    let long = (next-long c.loop-i.bufs c.loop-i.i c.index-bufs-i.result c.fill_from.new.buf
    (omega (arith, inside, kept.0)) kept.3).0 in
    let p = err_from_is_err_and c.from_residual.result c.from_residual.ensures.1 in
    rw (p.1, p.2) (secrets-refuse (finds old) (secret_paths c.args.request.now) c.loop-i.i _ path
    next.0 kept.1 (λ paths. Opens g.D.System.executes old paths new)
    (g.met.D.System.finds_some old) _
    (PrefixFound-before (finds old path) (finds c.loop-i.sys path)
    (λ file. Opens-finds executes finds opens old c.loop-i.sys _ path file kept.2) Secret _
    (PASSWORD_FILE_LIMIT + 1) _ long c.in_err-fill_from.ensures.refused)
    (Opens-more g.D.System.executes g.met.D.System.executes_more old c.loop-i.sys new _ _ kept.2
    c.in_err-fill_from.ensures.opens))

pub loop-i-preserved : goal.loop-i-preserved
loop-i-preserved g c =
    let finds = g.D.System.finds in
    let executes = g.D.System.executes in
    let opens = g.met.D.System.opens_finds in
    let old = c.args.sys.now in
    let new = c.fill_from.new.sys in
    let path = c.path.result.now in
    let kept = c.loop-i.invariant in
    let bufs = c.loop-i.bufs in
    let buf = c.fill_from.new.buf in
    let inside : c.loop-i.i < length (files_of c.args.request.now) =
    omega (arith, c.loop-i-test.true, c.files-i-end.ensures.count) in
    let within : c.loop-i.i < length bufs = omega (arith, inside, kept.0) in
    let next = next_path c.args.request.now c.loop-i.i path inside c.path.ensures in
    let long = next-long bufs c.loop-i.i c.index-bufs-i.result buf within kept.3 in
    let went = Opens-more executes g.met.D.System.executes_more old c.loop-i.sys new _ _ kept.2
    c.in_ok-fill_from.ensures.opens in (
      length-set bufs c.loop-i.i buf ∙ kept.0,
      rw (
        take_more_set bufs c.loop-i.i buf within,
        map-append (λ file. file.items) (take c.loop-i.i bufs) (buf ∷ []),
      )
          (GivesPrefix-more (finds old) (secret_paths c.args.request.now) c.loop-i.i _ path next.0
          kept.1 buf.items next.1
          (PrefixFound-before (finds old path) (finds c.loop-i.sys path)
          (λ file. Opens-finds executes finds opens old c.loop-i.sys _ path file kept.2) Secret _
          (PASSWORD_FILE_LIMIT + 1) _ long.0 c.in_ok-fill_from.ensures.read)),
      rw next.1 went,
      long.1,
    )

pub returns-clause-read : goal.returns-clause-read
returns-clause-read g c =
    let past : length (files_of c.args.request.now) ≤ c.loop-i.i =
    omega (arith, c.loop-i-test.false, c.files-i-end.ensures.count) in
    let all = take_all c.loop-i.i c.loop-i.bufs (omega (arith, past, c.loop-i.invariant.0)) in
    rw all at
    (ContentsFound-all (g.D.System.finds c.args.sys.now) (secret_paths c.args.request.now)
    c.loop-i.i _ (rw length-map past) c.loop-i.invariant.1)

pub loop-i-init : goal.loop-i-init
loop-i-init g c = (
  c.requires.count,
  λ rest found. (rest, found, search (rules), search (rules)),
  Opens-none g.D.System.executes g.met.D.System.executes_none c.args.sys.now,
  c.requires.long,
)
