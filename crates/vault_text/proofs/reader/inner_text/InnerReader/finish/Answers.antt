use Rattle.std.proofs.Common.{Ok, Err, sym, ◌∙◌, arith}
use Rattle.vault_text.specs.Hexadecimal.{unhex}
use Rattle.std.proofs.lemmas.Option.{IfSome_then}
use Rattle.std.proofs.lemmas.Result.{err_from_is_err_and}
use Rattle.vault_text.proofs.InnerTextLemmas.{payload_of-bad_salt, payload_of-ciphertext}
use Rattle.vault_text.proofs.InnerTextLemmas.{payload_of-bad_tag, read_inner-cut_off}
use Rattle.vault_text.proofs.InnerTextLemmas.{read_inner-parts}
use Rattle.vault_text.proofs.reader.inner_text.InnerReader.finish.Goals as goal

pub returns-in_default : goal.returns-in_default
returns-in_default c limit text has =
    sym (read_inner-cut_off limit c.args.label text _ (rw (← c.self.view_is) at has)
    c.in_default.not-Ciphertext)

pub returns-in_err-finish : goal.returns-in_err-finish
returns-in_err-finish c limit text has =
    let here = rw (← c.self.view_is) at has in
    let p = err_from_is_err_and c.from_residual.result c.from_residual.ensures.1 in
    let salt = c.in_err-finish.ensures in
    rw (p.1, p.2, salt.fault, read_inner-parts limit c.args.label text _ here c.in-Ciphertext.is)
    (sym (payload_of-bad_salt limit c.args.label _ _ _ (salt.long here.digits.salt here.salt)))

pub returns-in_default-new : goal.returns-in_default-new
returns-in_default-new c limit text has =
    let fits = c.in_default-new.ensures.fits.1 c.in_ok-finish.ensures.fits in
    cc

pub returns-in_err-finish-2 : goal.returns-in_err-finish-2
returns-in_err-finish-2 c limit text has =
    let here = rw (← c.self.view_is) at has in
    let p = err_from_is_err_and c.from_residual-in_err-finish-2.result
    c.from_residual-in_err-finish-2.ensures.1 in
    let tag = c.in_err-finish-2.ensures in
    rw (p.1, p.2, tag.fault, read_inner-parts limit c.args.label text _ here c.in-Ciphertext.is)
    (sym (payload_of-bad_tag limit c.args.label _ _ _ (IfSome_then (unhex here.digits.tag)
    (tag.long here.digits.tag here.tag) (λ t long same. omega (arith, long, same)))))

pub returns-in_default-try_from : goal.returns-in_default-try_from
returns-in_default-try_from c limit text has =
    let here = rw (← c.self.view_is) at has in
    let tag = c.in_ok-finish-2.ensures.bytes here.digits.tag here.tag in
    sym (read_inner-parts limit c.args.label text _ here c.in-Ciphertext.is
    ∙ payload_of-bad_tag limit c.args.label _ (unhex here.digits.tag) _
    (rw tag c.in_default-try_from.ensures.1))

pub returns-in_err-ciphertext : goal.returns-in_err-ciphertext
returns-in_err-ciphertext c limit text has =
    let here = rw (← c.self.view_is) at has in
    let p = err_from_is_err_and c.from_residual-in_err-ciphertext.result
    c.from_residual-in_err-ciphertext.ensures.1 in
    let salt = c.in_ok-finish.ensures.bytes here.digits.salt here.salt in
    let tag = c.in_ok-finish-2.ensures.bytes here.digits.tag here.tag in
    rw (p.1, p.2)
    (sym (rw (salt, tag) at (read_inner-parts limit c.args.label text _ here c.in-Ciphertext.is)
    ∙ payload_of-ciphertext limit c.args.label _ _ (unhex here.digits.ciphertext) (Err _)
    c.in_ok-finish.ensures.fits c.in-Ok.ensures.1.long
    (c.in_err-ciphertext.ensures.fault _ here.digits.ciphertext here.ciphertext)))

pub returns : goal.returns
returns c limit text has =
    let here = rw (← c.self.view_is) at has in
    let salt = c.in_ok-finish.ensures.bytes here.digits.salt here.salt in
    let tag = c.in_ok-finish-2.ensures.bytes here.digits.tag here.tag in
    let ciphertext = c.in_ok-ciphertext.ensures.bytes _ here.digits.ciphertext here.ciphertext in
    let whole = c.in-Ok.ensures.1 in
    rw (c.in-Some.ensures.bytes, whole.same)
    (sym (rw (salt, tag) at (read_inner-parts limit c.args.label text _ here c.in-Ciphertext.is)
    ∙ payload_of-ciphertext limit c.args.label _ _ (unhex here.digits.ciphertext) (Ok _)
    c.in_ok-finish.ensures.fits whole.long ciphertext))
