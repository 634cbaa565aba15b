use Rattle.vault_text.proofs.HexadecimalBlockLemmas.{unhex-block}
use Rattle.vault_text.proofs.hexadecimal.decode_block.Goals as goal

pub returns : goal.returns
returns c =
    unhex-block c.args.digits.now c.join_halves.new.bytes c.digit_values-is_good.result
    c.digit_values-is_good.ensures.good
    (c.join_halves.ensures c.args.digits.now c.digit_values-is_good.ensures.values)
