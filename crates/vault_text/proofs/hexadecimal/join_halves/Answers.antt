use Rattle.std.proofs.Common.{◌≡◌, ◌*◌, [], length, ap, ◌∙◌, arith}
use Rattle.std.proofs.lemmas.List.{length-map}
use Rattle.vault_text.specs.Hexadecimal.{value_or_invalid}
use Rattle.vault_text.proofs.HexadecimalBlockLemmas.{joined_next}
use Rattle.vault_text.proofs.HexadecimalLemmas.{unhex-spelled_bytes}
use Rattle.vault_text.proofs.hexadecimal.join_halves.Goals as goal

pub loop-place-init : goal.loop-place-init
loop-place-init c digits are all = unhex-spelled_bytes []

pub loop-place-preserved : goal.loop-place-preserved
loop-place-preserved c digits are all =
    let l = c.loop-place in
    let size : length c.args.values.now ≡ length digits =
    ap length are ∙ length-map digits value_or_invalid in
    let fits : length digits ≡ 2 * length l.bytes = omega arith in
    joined_next digits c.args.values.now l.bytes l.place fits (omega arith) are all
    (l.invariant digits are all)
