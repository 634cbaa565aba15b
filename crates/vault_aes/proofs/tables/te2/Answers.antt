use Rattle.vault_aes.specs.declared.tables.TheConstants.{TE2_WORDS}
use Rattle.vault_aes.proofs.TableLemmas.{IsMixed-tables, to_be_bytes-table}
use Rattle.vault_aes.proofs.tables.te2.Goals as goal

pub returns : goal.returns
returns c = to_be_bytes-table TE2_WORDS 2 c.args.x IsMixed-tables.2 c.ranges.x.fits
