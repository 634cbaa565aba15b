use Rattle.std.proofs.Common.{[], refl, arith}
use Rattle.vault_text.proofs.HexadecimalLemmas.{Decodes-nothing}
use Rattle.vault_text.proofs.reader.parts.CiphertextPart.new.Goals as goal

pub returns : goal.returns
returns c =
    rw (c.requires, c.new.ensures) (record {
      same_limit = refl;
      spelled = [];
      decoded = Decodes-nothing;
      long = λ e. cc;
      whole = λ e. (refl, omega arith);
    })
