use Rattle.std.proofs.Common.{◌≡◌, ℕ, Result, Ok, Err, [], length, arith, refl, take}
use Rattle.std.specs.Prelude.{OnErr, OnOk}
use Rattle.std.proofs.lemmas.List.{take_all}
use Rattle.vault_text.proofs.SinkLemmas.{prefix_second, taken_none}
use Rattle.vault_text.specs.Failures.{CountsFailure, HasRisen}
use Rattle.vault_cli.proofs.writing.write_text.Goals as goal

-- what is known after the last call, where it succeeded and where it failed
all-known : {T E A : Type 0} (F : Type 0) (before after : ℕ) (r : Result T E) → A → OnOk r F
    → CountsFailure before after r → OnOk r (A × F × (after ≡ before))
all-known F before after (Ok value) known finished same = (known, finished, same)
all-known F before after (Err error) known finished risen = tt

some-known : {T E : Type 0} (A : ℕ → Type 0) (n before after : ℕ) (r : Result T E) → A n
    → CountsFailure before after r → OnErr r ((n : ℕ) × A n × HasRisen before after)
some-known A n before after (Ok value) known same = tt
some-known A n before after (Err error) known risen = (n, known, risen)

on-err : {T E P : Type 0} (r : Result T E) → P → OnErr r P
on-err (Ok value) known = tt
on-err (Err error) known = known

pub returns-in_err-put_all-clause-cut : goal.returns-in_err-put_all-clause-cut
returns-in_err-put_all-clause-cut g c =
    let (n, took) =
    prefix_second g.K.Sink.takes g.met.K.Sink.takes_more _ _ _ [] c.args.text.now c.args.text.now
    refl c.in_ok-begin.ensures.takes c.in_err-put_all.ensures.prefix in
    on-err c.from_residual-in_err-put_all.result
    (n, took, rw c.in_ok-begin.ensures.failed at c.in_err-put_all.ensures.failed)

pub returns : goal.returns
returns g c =
    let text = c.args.text.now in
    let more = g.met.K.Sink.takes_more in
    let said = more _ _ _ [] text c.in_ok-begin.ensures.takes c.in_ok-put_all.ensures.takes in
    let taken = taken_none g.K.Sink.takes more _ _ _ text said c.finish.ensures.takes in
    let whole : take (length text) text ≡ text = take_all (length text) text (omega arith) in
    let failed = rw (c.in_ok-put_all.ensures.failed, c.in_ok-begin.ensures.failed)
    at c.finish.ensures.failed in
    record {
      received = all-known _ _ _ c.finish.result taken c.finish.ensures.finished failed;
      cut = some-known (λ n. g.K.Sink.takes c.args.out.now (take n text) c.finish.new.self)
          (length text) _ _ c.finish.result (rw whole taken) failed;
    }
