use Rattle.std.proofs.Common.{[], refl}
use Rattle.vault_text.proofs.reader.inner_text.InnerReader.new.Goals as goal

pub returns : goal.returns
returns c = record {
  digits = record { salt = []; tag = []; ciphertext = [] };
  cut = (refl, refl, refl, refl);
  salt = c.new.ensures;
  tag = c.new-2.ensures;
  ciphertext = c.new-3.ensures;
}
