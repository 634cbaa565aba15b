use Rattle.vault_text.proofs.theorems.WrittenReadsBack.{written_reads_back}
use Rattle.vault_text.proofs.laws.written_reads_back.Goals as goal

pub returns : goal.returns
returns c = written_reads_back
