use Rattle.std.proofs.Common.{◌≡◌, ◌<◌, ◌++◌, ◌∷◌, [], ap, arith, get_or, length, refl, ◌∙◌}
use Rattle.std.specs.Result.{result_map_both}
use Rattle.vault_core.specs.Password.{of_secret}
use Rattle.std.proofs.lemmas.List.{append-nil, drop_all, drop_more, length_push}
use Rattle.std.proofs.lemmas.Result.{err_from_is_err_and}
use Rattle.std.specs.Prelude.{option_to_list}
use Rattle.vault_core.specs.Secrets.{Secret}
use Rattle.vault_cli.specs.runs.Task.{secrets_of}
use Rattle.vault_cli.proofs.TaskLemmas.{content_at, label_at, no_file, secrets_of-added}
use Rattle.vault_cli.proofs.TaskLemmas.{secrets_of-refused, within_all}
use Rattle.vault_cli.proofs.runs.secret_list.secrets_of.Goals as goal

pub returns-in_err-password : goal.returns-in_err-password
returns-in_err-password c =
    let p = err_from_is_err_and c.from_residual.result c.from_residual.ensures.1 in
    let files = c.args.request.now.secrets in
    let inside : c.loop-i.i < length files = omega arith in
    let refused = secrets_of-refused c.loop-i.i files _ _ _
    (drop_more files c.loop-i.i no_file inside)
    (content_at c.args.secret_files.now c.loop-i.i c.index-secret_files-i.result
    (within_all c.args.request.now _ c.loop-i.i c.requires inside) c.index-secret_files-i.is) _
    c.loop-i.invariant.2 (of_secret c.in_err-password.field-0.0)
    (ap (result_map_both (λ password. password) of_secret)
    (rw c.as_slice.ensures.value at c.in_err-password.ensures.password)) in
    rw (p.1, p.2, ← refused) refl

pub loop-i-preserved : goal.loop-i-preserved
loop-i-preserved c =
    let files = c.args.request.now.secrets in
    let inside : c.loop-i.i < length files = omega arith in
    let label = c.copy.ensures
    ∙ label_at files (option_to_list c.args.request.now.new_secret) c.loop-i.i c.label.result.now
    inside c.label.ensures in
    let secret : Secret = record {
      label = (get_or files c.loop-i.i no_file).label;
      password = c.in_ok-password.password.now;
    } in
    let added : c.push.new.self.secrets ≡ c.loop-i.secrets.secrets ++ secret ∷ [] =
    rw (c.unwrap.ensures, label) at c.push.ensures.added in
    let rule : c.push.new.self.rule ≡ c.loop-i.secrets.rule =
    rw c.unwrap.ensures at c.push.ensures.rule in
    rw (added, rule) (
      omega (arith, length_push c.loop-i.secrets.secrets secret, c.loop-i.invariant.0),
      c.loop-i.invariant.1,
      secrets_of-added c.loop-i.i files _ _ _ (drop_more files c.loop-i.i no_file inside)
          (content_at c.args.secret_files.now c.loop-i.i c.index-secret_files-i.result
          (within_all c.args.request.now _ c.loop-i.i c.requires inside) c.index-secret_files-i.is)
          _ c.loop-i.invariant.2 c.in_ok-password.password.now
          (ap (result_map_both (λ password. password) of_secret)
          (rw c.as_slice.ensures.value at c.in_ok-password.ensures.password)),
    )

pub returns : goal.returns
unfolding secrets_of
returns c =
    let all = rw (drop_all c.loop-i.i c.args.request.now.secrets (omega arith), append-nil) at
    c.loop-i.invariant.2 in
    rw (← all, ← c.loop-i.invariant.1) refl
