use Rattle.std.proofs.Common.{◌∙◌, ap, arith, length-append, length-set, replicate}
use Rattle.std.proofs.Common.{sym, take_all, take_at}
use Rattle.vault_aes.specs.KeyExpansion.{first_words, key_schedule, next_word}
use Rattle.vault_aes.proofs.KeyExpansionLemmas.{first_words-more}
use Rattle.vault_aes.proofs.key_expansion.expand_key.Goals as goal

pub loop-i-init : goal.loop-i-init
unfolding first_words
loop-i-init c =
    let words = c.copy_from_slice.new.self in
    let zeros = replicate 52 0 in (
      omega (arith, length-append words zeros, c.copy_from_slice.ensures.len),
      take_at words zeros 8 c.copy_from_slice.ensures.len ∙ c.copy_from_slice.ensures.after
          ∙ c.key_words.ensures,
    )

pub loop-i-preserved : goal.loop-i-preserved
unfolding next_word
loop-i-preserved c =
    let words = c.loop-i.words in
    let i = c.loop-i.i in (
      length-set words i _ ∙ c.loop-i.invariant.0,
      rw c.schedule_step.ensures
          (first_words-more c.args.key.now words i c.loop-i.auto.i (omega arith)
          c.loop-i.invariant.1),
    )

pub returns : goal.returns
unfolding key_schedule
returns c =
    let words = c.loop-i.words in
    let i = c.loop-i.i in
    sym (take_all i words (omega arith)) ∙ c.loop-i.invariant.1
    ∙ ap (first_words c.args.key.now) (omega arith)
