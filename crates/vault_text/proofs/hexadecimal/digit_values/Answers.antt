use Rattle.std.proofs.Common.{ℕ, arith}
use Rattle.std.proofs.lemmas.List.{length-set, take_all}
use Rattle.vault_text.proofs.HexadecimalBlockLemmas.{digits_next, values_next}
use Rattle.vault_text.proofs.hexadecimal.digit_values.Goals as goal

pub loop-place-preserved : goal.loop-place-preserved
loop-place-preserved c =
    let l = c.loop-place in
    rw (c.unwrap_or-value.ensures, c.digit_value.ensures) (
      omega (arith, l.invariant.0, length-set {A = ℕ}),
      values_next c.args.digits.now l.values l.place (omega arith) (omega arith) l.invariant.1,
      digits_next c.args.digits.now l.seen l.place (omega arith) l.invariant.2,
    )

pub returns-clause-values : goal.returns-clause-values
returns-clause-values c =
    let l = c.loop-place in
    rw (take_all l.place c.args.digits.now (omega arith), take_all l.place l.values (omega arith))
    at l.invariant.1
