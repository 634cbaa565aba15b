use Rattle.vault_aes.specs.declared.tables.TheConstants.{TE3_WORDS}
use Rattle.vault_aes.proofs.TableLemmas.{IsMixed-tables, to_be_bytes-table}
use Rattle.vault_aes.proofs.tables.te3.Goals as goal

pub returns : goal.returns
returns c = to_be_bytes-table TE3_WORDS 3 c.args.x IsMixed-tables.3 c.ranges.x.fits
