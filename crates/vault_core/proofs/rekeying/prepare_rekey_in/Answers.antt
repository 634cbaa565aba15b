use Rattle.std.proofs.Common.{Ok, arith, sym, ◌∙◌}
use Rattle.std.proofs.lemmas.Result.{err_from_is_err_and}
use Rattle.vault_text.specs.Limits.{limit_of}
use Rattle.vault_core.proofs.DecryptionLemmas.{derivations-of}
use Rattle.vault_core.proofs.InputLemmas.{Ok-is_no_read}
use Rattle.vault_core.proofs.RekeyingLemmas.{rekeying-is_no_read, rekeying-of}
use Rattle.vault_core.proofs.rekeying.prepare_rekey_in.Goals as goal

pub returns-in_err-payload-clause-answered : goal.returns-in_err-payload-clause-answered
returns-in_err-payload-clause-answered g c =
    let p = err_from_is_err_and c.from_residual.result c.from_residual.ensures.1 in
    let limit = limit_of c.args.memory.limit in
    let secrets = c.args.secrets.now in
    rw (p.1, p.2) (λ other.
    let (input, was) = c.in_err-payload.ensures.answered (λ unread. other cc) in (
      input,
      record {
        read = was.read;
        answer = sym (rekeying-of limit secrets c.args.new.now c.args.salt.now input _ was.answer);
        counted = omega (arith, derivations-of limit secrets input _ was.answer);
      },
    ))

pub returns : goal.returns
returns g c =
    let limit = limit_of c.args.memory.limit in
    let secrets = c.args.secrets.now in
    let new = c.args.new.now in
    let salt = c.args.salt.now in
    let rekeyed = c.rekey_payload.ensures in
    let payload = c.in_ok-payload.payload in
    let (input, was) = c.in_ok-payload.ensures.answered (Ok-is_no_read payload) in
    let answer =
    rekeyed.answer ∙ sym (rekeying-of limit secrets new salt input (Ok payload) was.answer) in
    let never = rw (← answer) at (rekeying-is_no_read limit secrets new salt input) in
    record {
      answered = λ _. (
        input,
        record {
          read = was.read;
          answer = answer;
          counted = rw (derivations-of limit secrets input (Ok payload) was.answer) rekeyed.counted;
        },
      );
      failed = λ unread. absurd (never unread);
      underived = λ unread. absurd (never unread);
      full = λ full. absurd (Ok-is_no_read payload (c.in_ok-payload.ensures.full full));
    }
