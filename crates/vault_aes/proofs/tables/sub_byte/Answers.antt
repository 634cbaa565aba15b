use Rattle.vault_aes.proofs.TableLemmas.{slice_index-S_BOX}
use Rattle.vault_aes.proofs.tables.sub_byte.Goals as goal

pub returns : goal.returns
returns c = slice_index-S_BOX c.args.x c.ranges.x.fits
