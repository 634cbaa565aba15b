use Rattle.std.proofs.Common.{ap, [], refl}
use Rattle.std.specs.Result.{result_map_both}
use Rattle.std.proofs.lemmas.Result.{err_from_is_err_and}
use Rattle.vault_fault.specs.Fault.{of_text}
use Rattle.vault_core.proofs.input.read_payload.Goals as goal

pub returns-in_err-finish-clause-answered : goal.returns-in_err-finish-clause-answered
returns-in_err-finish-clause-answered g c =
    let p = err_from_is_err_and c.from_residual-in_err-finish.result
    c.from_residual-in_err-finish.ensures.1 in
    let new = c.in_memory-reader.ensures in
    let (input, was) = c.in_ok-feed_input.ensures.read in
    let answer = rw (c.in_ok-feed_input.ensures.limit, new.limit) at
    (c.in_err-finish.ensures input (was.fed [] new.nothing)) in
    λ _. (
      input,
      record {
        read = rw new.limit at was.read;
        answer = rw (p.1, p.2, ap (result_map_both (λ payload. payload) of_text) answer) refl;
      },
    )

pub returns-clause-answered : goal.returns-clause-answered
returns-clause-answered g c =
    let new = c.in_memory-reader.ensures in
    let (input, was) = c.in_ok-feed_input.ensures.read in
    let answer = rw (c.in_ok-feed_input.ensures.limit, new.limit) at
    (c.in_ok-finish.ensures input (was.fed [] new.nothing)) in
    λ _. (
      input,
      record {
        read = rw new.limit at was.read;
        answer = ap (result_map_both (λ payload. payload) of_text) answer;
      },
    )
