use Rattle.vault_request.proofs.BuiltLemmas.{last-more, one-more}
use Rattle.vault_request.specs.Built.{IsCommand}
use Rattle.clap.specs.Words.{new_app}
use Rattle.vault_request.proofs.command_line.with_secrets.Goals as goal

pub returns : goal.returns
returns c =
    let empty : IsCommand c.about.result (new_app c.args.name.now) = record {
      shape = rw c.about.ensures c.new.ensures.app;
      local = rw c.about.ensures c.new.ensures.local;
    } in
    last-more c.arg-2.result (one-more empty c.in_ok-arg.ensures c.repeated.ensures) c.arg-2.ensures
    c.repeated-2.ensures
