use Rattle.vault_aes.specs.declared.tables.TheConstants.{TE1_WORDS}
use Rattle.vault_aes.proofs.TableLemmas.{IsMixed-tables, to_be_bytes-table}
use Rattle.vault_aes.proofs.tables.te1.Goals as goal

pub returns : goal.returns
returns c = to_be_bytes-table TE1_WORDS 1 c.args.x IsMixed-tables.1 c.ranges.x.fits
