use Rattle.std.proofs.Common.{Ok, arith, sym, ◌∙◌}
use Rattle.std.proofs.lemmas.Result.{err_from_is_err_and}
use Rattle.vault_text.specs.Limits.{limit_of}
use Rattle.vault_core.proofs.DecryptionLemmas.{decryption-is_no_read, decryption-of, derivations-of}
use Rattle.vault_core.proofs.InputLemmas.{Ok-is_no_read}
use Rattle.vault_core.proofs.decryption.prepare_decrypt_in.Goals as goal

pub returns-in_err-payload-clause-answered : goal.returns-in_err-payload-clause-answered
returns-in_err-payload-clause-answered g c =
    let p = err_from_is_err_and c.from_residual.result c.from_residual.ensures.1 in
    let limit = limit_of c.args.memory.limit in
    let secrets = c.args.secrets.now in
    rw (p.1, p.2) (λ other.
    let (input, was) = c.in_err-payload.ensures.answered (λ unread. other cc) in (
      input,
      record {
        read = was.read;
        answer = sym (decryption-of limit secrets input _ was.answer);
        counted = omega (arith, derivations-of limit secrets input _ was.answer);
      },
    ))

pub returns-in_err-padded : goal.returns-in_err-padded
returns-in_err-padded g c =
    let p = err_from_is_err_and c.from_residual-in_err-padded.result
    c.from_residual-in_err-padded.ensures.1 in
    let limit = limit_of c.args.memory.limit in
    let secrets = c.args.secrets.now in
    let unsealed = c.in_err-padded.ensures in
    let payload = c.in_ok-payload.payload in
    let (input, was) = c.in_ok-payload.ensures.answered (Ok-is_no_read payload) in
    let is = decryption-of limit secrets input (Ok payload) was.answer in
    let derived = derivations-of limit secrets input (Ok payload) was.answer in
    let answer = unsealed.unsealed ∙ sym is in
    let never = rw (← answer) at (decryption-is_no_read limit secrets input) in
    rw (p.1, p.2) (record {
      answered = λ _. (
        input,
        record {
          read = was.read;
          answer = answer;
          counted = rw derived unsealed.counted;
        },
      );
      failed = λ unread. absurd (never unread);
      underived = λ unread. absurd (never unread);
      full = λ full. absurd (Ok-is_no_read payload (c.in_ok-payload.ensures.full full));
    })

pub returns-clause-answered : goal.returns-clause-answered
returns-clause-answered g c =
    let limit = limit_of c.args.memory.limit in
    let secrets = c.args.secrets.now in
    let unsealed = c.in_ok-padded.ensures in
    let payload = c.in_ok-payload.payload in
    let (input, was) = c.in_ok-payload.ensures.answered (Ok-is_no_read payload) in
    let is = decryption-of limit secrets input (Ok payload) was.answer in
    let derived = derivations-of limit secrets input (Ok payload) was.answer in
    λ _. (
      input,
      record {
        read = was.read;
        answer = rw c.padded.view_is (unsealed.unsealed ∙ sym is);
        counted = rw derived unsealed.counted;
      },
    )
