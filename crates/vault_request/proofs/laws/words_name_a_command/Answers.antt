use Rattle.vault_request.proofs.theorems.WordsNameACommand.{words_name_a_command}
use Rattle.vault_request.proofs.laws.words_name_a_command.Goals as goal

pub returns : goal.returns
returns c = words_name_a_command
