use Rattle.vault_request.proofs.BuiltLemmas.{last-more, one-more}
use Rattle.vault_request.proofs.command_line.decrypt.Goals as goal

pub returns : goal.returns
returns c =
    last-more c.arg-3.result (one-more (one-more c.in_ok-with_secrets.ensures c.in_ok-arg.ensures
    c.flag.ensures) c.in_ok-arg-2.ensures c.option.ensures) c.arg-3.ensures c.positional.ensures
