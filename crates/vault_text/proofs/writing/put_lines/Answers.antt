use Rattle.vault_text.proofs.BlockLemmas.{opening-parts}
use Rattle.vault_text.proofs.writing.put_lines.Goals as goal

pub returns : goal.returns
returns g c =
    let cut = c.first_lines-first.ensures in
    let put = c.put_ciphertext.ensures in
    let whole = opening-parts _ _ _ _ _ _ _ _ _ _ _ c.append_head.ensures.text
    c.append_lines.ensures.text c.as_slice.ensures.value cut.text cut.full in
    record {
      takes = rw whole at put.takes;
      prefix = rw whole at put.prefix;
      stage = put.stage;
      failed = put.failed;
      full = put.full;
    }
