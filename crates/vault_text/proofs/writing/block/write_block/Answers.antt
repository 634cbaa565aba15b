use Rattle.std.proofs.Common.{◌∙◌, ap, arith, rules}
use Rattle.std.proofs.lemmas.Grind.{common_steps}
use Rattle.vault_text.proofs.BlockLemmas.{block-parts, copied-or}
use Rattle.vault_text.proofs.SinkLemmas.{prefix_first, takes_second}
use Rattle.vault_text.proofs.writing.block.write_block.Goals as goal

pub returns-in_err-put_all-clause-prefix : goal.returns-in_err-put_all-clause-prefix
returns-in_err-put_all-clause-prefix g c =
    let or = ap (λ text. text.now) c.unwrap_or-name.ensures ∙ copied-or c.args.name _ in
    let name = c.as_bytes.ensures.value ∙ or in
    let start = rw or at c.block_start-start.ensures.line in
    prefix_first g.K.Sink.takes _ _ _ _ _ (block-parts _ _ _ _ _ _ start)
    (rw name at c.put_all.ensures.prefix)

pub returns : goal.returns
returns g c =
    let or = ap (λ text. text.now) c.unwrap_or-name.ensures ∙ copied-or c.args.name _ in
    let name = c.as_bytes.ensures.value ∙ or in
    let start = rw or at c.block_start-start.ensures.line in
    let both = takes_second g.K.Sink.takes g.met.K.Sink.takes_more _ _ _ c.put_lines.result _ _ _
    (block-parts _ _ _ _ _ _ start) (rw name at c.in_ok-put_all.ensures.takes)
    c.put_lines.ensures.takes c.put_lines.ensures.prefix in
    record {
      takes = both.0;
      prefix = both.1;
      stage = search rules;
      failed = grind (arith, common_steps);
      full = grind (arith, common_steps);
    }
