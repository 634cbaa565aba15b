use Rattle.std.proofs.Common.{ℕ, rules, ◌-◌, take, length, arith, length-take, length-drop}
use Rattle.std.proofs.lemmas.Result.{MatchResult-from_err}
use Rattle.vault_text.proofs.SinkLemmas.{taken_none}
use Rattle.vault_text.proofs.SourceLemmas.{given_none, given_next, length-written}
use Rattle.vault_text.proofs.source.fill_up.Goals as goal

pub returns-in_err-n-clause-some : goal.returns-in_err-n-clause-some
returns-in_err-n-clause-some g c =
    let l = c.loop-filled in
    let whole = length-written l.filled l.buf c.fill.new.buf l.invariant.0 c.fill.auto.buf in (
      take l.filled l.buf,
      omega (arith, whole, length-take l.filled l.buf),
      MatchResult-from_err _ _ _ c.from_residual.ensures.0
          (λ _. omega (arith, whole, c.loop-filled-test.true, length-take l.filled l.buf)),
      taken_none g.S.Source.gives g.met.S.Source.gives_more _ _ _ _ l.invariant.1
          c.in_err-n.ensures.gives,
    )

pub loop-filled-preserved : goal.loop-filled-preserved
loop-filled-preserved g c =
    let l = c.loop-filled in
    let whole = length-written l.filled l.buf c.fill.new.buf l.invariant.0 c.fill.auto.buf in (
      omega (arith, whole, c.in_ok-n.ensures.bound, length-take {A = ℕ}, length-drop {A = ℕ}),
      given_next g.S.Source.gives g.met.S.Source.gives_more _ _ _ l.filled c.in_ok-n.n
          (length l.buf - l.filled) l.buf c.fill.new.buf l.invariant.0 c.in_ok-n.ensures.bound
          l.invariant.1 c.in_ok-n.ensures.gives,
      search rules,
      (λ none. absurd (c.if-n-eq0.false (omega (arith, none)))),
      search rules,
    )

pub returns-then-n-eq0-clause-gives : goal.returns-then-n-eq0-clause-gives
returns-then-n-eq0-clause-gives g c =
    let l = c.loop-filled in
    given_none g.S.Source.gives g.met.S.Source.gives_more _ _ _ l.filled c.in_ok-n.n
    (length l.buf - l.filled) l.buf c.fill.new.buf l.invariant.0 c.if-n-eq0.true l.invariant.1
    c.in_ok-n.ensures.gives

pub returns-then-n-eq0-clause-some : goal.returns-then-n-eq0-clause-some
returns-then-n-eq0-clause-some g c =
    let l = c.loop-filled in
    let whole = length-written l.filled l.buf c.fill.new.buf l.invariant.0 c.fill.auto.buf in (
      take l.filled l.buf,
      omega (arith, whole, length-take l.filled l.buf),
      tt,
      taken_none g.S.Source.gives g.met.S.Source.gives_more _ _ _ _ l.invariant.1
          (rw c.if-n-eq0.true at c.in_ok-n.ensures.gives),
    )
