use Rattle.std.proofs.Common.{ℕ, rules, arith, length-drop, length-take}
use Rattle.vault_text.proofs.SinkLemmas.{taken_next, taken_none}
use Rattle.vault_text.proofs.sink.put_all.Goals as goal

pub returns-in_err-done-clause-prefix : goal.returns-in_err-done-clause-prefix
returns-in_err-done-clause-prefix g c = (
  c.loop-done.done,
  taken_none g.K.Sink.takes g.met.K.Sink.takes_more _ _ _ _ c.loop-done.invariant.1
      c.in_err-done.ensures.takes,
)

pub loop-done-preserved : goal.loop-done-preserved
loop-done-preserved g c = (
  omega (arith, c.in_ok-done.ensures.bound, length-take {A = ℕ}, length-drop {A = ℕ}),
  taken_next g.K.Sink.takes g.met.K.Sink.takes_more _ _ _ _ _ _ c.loop-done.invariant.1
      c.in_ok-done.ensures.takes,
  search rules,
  search rules,
  search rules,
)
