use Rattle.vault_cli.proofs.explaining.mistake_text.Goals as goal

pub returns : goal.returns
returns c = (_, c.in_ok-text.ensures, c.in_ok-push_str.ensures.bytes)
