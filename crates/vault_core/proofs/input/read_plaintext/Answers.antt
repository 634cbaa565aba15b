use Rattle.std.proofs.Common.{◌≤◌, ◌+◌, ◌-◌, ℕ, arith, inl, length}
use Rattle.std.proofs.Common.{length-append, length-take, rules, take, ◌∙◌}
use Rattle.std.proofs.lemmas.Result.{MatchResult-from_err}
use Rattle.vault_text.proofs.SinkLemmas.{taken_none}
use Rattle.vault_core.proofs.input.read_plaintext.Goals as goal

pub returns-in_err-n-clause-failed : goal.returns-in_err-n-clause-failed
returns-in_err-n-clause-failed g c =
    let kept = c.loop-buffer.invariant in
    let bytes = c.loop-buffer.memory.bytes in
    MatchResult-from_err _ _ _ c.from_residual.ensures.0 (λ _. record {
      input = bytes;
      gives = taken_none g.S.Source.gives g.met.S.Source.gives_more _ _ _ bytes kept.gives
          c.in_err-n.ensures.gives;
      short = omega (arith, c.room.ensures, kept.limit, c.loop-buffer-test.true);
      failed = rw kept.failures at c.in_err-n.ensures.failed;
    })

pub returns-then-n-eq0-clause-read : goal.returns-then-n-eq0-clause-read
returns-then-n-eq0-clause-read g c =
    let kept = c.loop-buffer.invariant in
    record {
      gives = taken_none g.S.Source.gives g.met.S.Source.gives_more _ _ _ c.loop-buffer.memory.bytes
          kept.gives (rw c.if-n-eq0.true at c.in_ok-n.ensures.gives);
      bounded = kept.bound;
      whole = inl (c.in_ok-n.ensures.end.0 c.if-n-eq0.true);
      unfailed = c.in_ok-n.ensures.failed ∙ kept.failures;
    }

pub loop-buffer-preserved : goal.loop-buffer-preserved
loop-buffer-preserved g c =
    let kept = c.loop-buffer.invariant in
    let bytes = c.loop-buffer.memory.bytes in
    let piece = take c.in_ok-n.n c.fill.new.buf in
    let short : length piece ≤ c.room-in-loop-buffer.result - 16 + 1 =
    omega (arith, c.in_ok-n.ensures.bound, c.min.ensures, length-take {A = ℕ}) in
    rw c.put.ensures (record {
      gives = g.met.S.Source.gives_more _ _ _ bytes piece kept.gives c.in_ok-n.ensures.gives;
      limit = kept.limit;
      bound = omega (arith, length-append bytes piece);
      failures = c.in_ok-n.ensures.failed ∙ kept.failures;
      full = search rules;
    })
