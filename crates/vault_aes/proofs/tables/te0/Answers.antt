use Rattle.vault_aes.specs.declared.tables.TheConstants.{TE0_WORDS}
use Rattle.vault_aes.proofs.TableLemmas.{IsMixed-tables, to_be_bytes-table}
use Rattle.vault_aes.proofs.tables.te0.Goals as goal

pub returns : goal.returns
returns c = to_be_bytes-table TE0_WORDS 0 c.args.x IsMixed-tables.0 c.ranges.x.fits
