use Rattle.vault_request.proofs.BuiltLemmas.{last-more, one-more}
use Rattle.vault_request.proofs.command_line.with_salt.Goals as goal

pub returns : goal.returns
returns c =
    last-more c.arg-2.result (one-more c.in_ok-with_secrets.ensures c.in_ok-arg.ensures
    c.option.ensures) c.arg-2.ensures c.option-2.ensures
