use Rattle.std.specs.Option.{option_copied}
use Rattle.vault_core.proofs.ChoiceLemmas.{IfOk-within}
use Rattle.vault_core.proofs.secrets.Secrets.encrypt_choice.Goals as goal

pub returns-clause-within : goal.returns-clause-within
returns-clause-within c =
    IfOk-within c.args.self.now.secrets (option_copied c.args.label) c.chosen_index.result
    (rw c.as_slice.ensures.secrets at c.chosen_index.ensures)
