use Rattle.vault_aes.proofs.CounterModeLemmas.{counter_mode-counter_mode, length-counter_mode}
use Rattle.vault_aes.proofs.laws.counter_mode_undoes_itself.Goals as goal

pub returns : goal.returns
returns c = record { twice = counter_mode-counter_mode; same_length = length-counter_mode }
