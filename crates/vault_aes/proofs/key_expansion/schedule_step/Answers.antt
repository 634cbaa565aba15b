use Rattle.std.proofs.Common.{◌/◌, ◌%◌, bit_xor, sym, ap, ◌∙◌, arith, refl}
use Rattle.std.proofs.lemmas.Bool.{ne_eqb}
use Rattle.vault_aes.specs.KeyExpansion.{schedule_step, sub_word}
use Rattle.vault_aes.proofs.KeyExpansionLemmas.{rot_word-rotate_left, slice_index-ROUND_CONSTANTS}
use Rattle.vault_aes.proofs.key_expansion.schedule_step.Goals as goal

pub returns-in-0 : goal.returns-in-0
unfolding schedule_step
returns-in-0 c =
    let rotated =
    c.rotate_left.ensures ∙ sym (rot_word-rotate_left c.args.previous c.ranges.previous.fits) in
    let constant = slice_index-ROUND_CONSTANTS (c.args.i / 8) (omega arith) (omega arith) in
    rw c.in-0.is (λ j. bit_xor ((c.sub_word.ensures ∙ ap sub_word rotated) j) (constant j))

pub returns-in-4 : goal.returns-in-4
unfolding schedule_step
returns-in-4 c = rw c.in-4.is c.sub_word-in-4.ensures

pub returns-in_default : goal.returns-in_default
unfolding schedule_step
returns-in_default c =
    rw (ne_eqb (c.args.i % 8) 0 (λ e. omega arith), ne_eqb (c.args.i % 8) 4 (λ e. omega arith)) refl
