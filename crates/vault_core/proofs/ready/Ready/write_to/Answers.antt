use Rattle.std.proofs.Common.{◌≡◌, [], length, rules, take, take_all, ap, arith}
use Rattle.vault_text.proofs.SinkLemmas.{taken_none}
use Rattle.vault_core.specs.Ready.{Ready}
use Rattle.vault_core.proofs.ready.Ready.write_to.Goals as goal

pub returns-in_err-write-clause-prefix : goal.returns-in_err-write-clause-prefix
returns-in_err-write-clause-prefix g c =
    let output = ap (λ (r : Ready). r.output) c.self.view_is in
    let prefix = c.in_err-write.ensures.prefix in (
      prefix.0,
      rw output at (g.met.K.Sink.takes_more _ _ _ [] _ c.in_ok-begin.ensures.takes prefix.1),
    )

pub returns-in_err-finish-clause-prefix : goal.returns-in_err-finish-clause-prefix
returns-in_err-finish-clause-prefix g c =
    let output = ap (λ (r : Ready). r.output) c.self.view_is in
    let more = g.met.K.Sink.takes_more in
    let taken =
    rw output at (more _ _ _ [] _ c.in_ok-begin.ensures.takes c.in_ok-write.ensures.takes) in
    let whole : take (length c.args.self.output) c.args.self.output ≡ c.args.self.output =
    take_all _ _ (omega arith) in (
      length c.args.self.output,
      rw whole (taken_none g.K.Sink.takes more _ _ _ _ taken c.in_err-finish.ensures.takes),
    )

pub returns : goal.returns
returns g c =
    let output = ap (λ (r : Ready). r.output) c.self.view_is in
    let more = g.met.K.Sink.takes_more in
    let taken =
    rw output at (more _ _ _ [] _ c.in_ok-begin.ensures.takes c.in_ok-write.ensures.takes) in
    let written = taken_none g.K.Sink.takes more _ _ _ _ taken c.in_ok-finish.ensures.takes in
    let whole : take (length c.args.self.output) c.args.self.output ≡ c.args.self.output =
    take_all _ _ (omega arith) in
    record {
      written = written;
      finished = search rules;
      prefix = (length c.args.self.output, rw whole written);
      unfinished = search rules;
      failed = search rules;
      full = search rules;
    }
