use Rattle.vault_text.proofs.HexadecimalLemmas.{unhex_on-nil}
use Rattle.vault_text.proofs.hexadecimal.HexDecoder.is_complete.Goals as goal

pub returns-then-not-self : goal.returns-then-not-self
returns-then-not-self c =
    rw (← c.self.view_is) (unhex_on-nil _ c.is_none.result c.if-not-self.true c.is_none.ensures)
