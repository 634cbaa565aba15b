use Rattle.std.proofs.Common.{ℕ, ◌++◌, append_assoc, arith, inl}
use Rattle.std.proofs.Common.{length-append, length-take, rules, take, ◌∙◌}
use Rattle.std.proofs.lemmas.Result.{MatchResult-from_err}
use Rattle.vault_text.proofs.SinkLemmas.{taken_none}
use Rattle.vault_core.proofs.input.feed_input.Goals as goal

pub returns-in_err-n-clause-failed : goal.returns-in_err-n-clause-failed
returns-in_err-n-clause-failed g c =
    let (input, kept) = c.loop-left.invariant in
    MatchResult-from_err _ _ _ c.from_residual.ensures.0 (λ _. record {
      input = input;
      gives = taken_none g.S.Source.gives g.met.S.Source.gives_more _ _ _ input kept.gives
          c.in_err-n.ensures.gives;
      short = omega (arith, kept.left, c.loop-left-test.true);
      failed = rw kept.failures at c.in_err-n.ensures.failed;
    })

pub loop-left-preserved : goal.loop-left-preserved
loop-left-preserved g c =
    let input = c.loop-left.invariant.0 in
    let kept = c.loop-left.invariant.1 in
    let piece = take c.in_ok-n.n c.fill.new.buf in (
      input ++ piece,
      record {
        gives = g.met.S.Source.gives_more _ _ _ input piece kept.gives c.in_ok-n.ensures.gives;
        left = omega (
          arith,
          kept.left,
          length-append input piece,
          c.in_ok-n.ensures.bound,
          length-take {A = ℕ},
        );
        limit = c.feed.ensures.limit ∙ kept.limit;
        taken =
            λ before h.
            rw append_assoc at (c.feed.ensures.taken (before ++ input) (kept.taken before h));
        failures = c.in_ok-n.ensures.failed ∙ kept.failures;
        full = search rules;
      },
    )

pub returns-then-n-eq0-clause-read : goal.returns-then-n-eq0-clause-read
returns-then-n-eq0-clause-read g c =
    let input = c.loop-left.invariant.0 in
    let kept = c.loop-left.invariant.1 in (
      input,
      record {
        read = record {
          gives = taken_none g.S.Source.gives g.met.S.Source.gives_more _ _ _ input kept.gives
              (rw c.if-n-eq0.true at c.in_ok-n.ensures.gives);
          bounded = omega (arith, kept.left);
          whole = inl (c.in_ok-n.ensures.end.0 c.if-n-eq0.true);
          unfailed = c.in_ok-n.ensures.failed ∙ kept.failures;
        };
        fed = kept.taken;
      },
    )
