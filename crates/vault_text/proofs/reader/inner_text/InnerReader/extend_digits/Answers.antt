use Rattle.std.proofs.Common.{◌++◌, ap, append_assoc}
use Rattle.vault_text.proofs.InnerReaderLemmas.{one_line-append}
use Rattle.vault_text.proofs.reader.inner_text.InnerReader.extend_digits.Goals as goal

pub returns-in-Salt-clause-taken : goal.returns-in-Salt-clause-taken
returns-in-Salt-clause-taken c limit text has =
    let here = rw (← c.self.view_is, c.in-Salt.is) at has in
    let d = here.digits in
    let more = c.args.digits.now in
    rw c.in-Salt.is (record {
      digits = record { salt = d.salt ++ more; tag = d.tag; ciphertext = d.ciphertext };
      cut = (
        ap (λ xs. xs ++ more) here.cut.0,
        one_line-append d.salt more here.cut.1
            (rw (← c.self.view_is, c.in-Salt.is) at c.requires.digits),
        here.cut.2,
        here.cut.3,
      );
      salt = c.extend.ensures here.digits.salt here.salt;
      tag = here.tag;
      ciphertext = here.ciphertext;
    })

pub returns-in-Tag-clause-taken : goal.returns-in-Tag-clause-taken
returns-in-Tag-clause-taken c limit text has =
    let here = rw (← c.self.view_is, c.in-Tag.is) at has in
    let d = here.digits in
    let more = c.args.digits.now in
    rw c.in-Tag.is (record {
      digits = record { salt = d.salt; tag = d.tag ++ more; ciphertext = d.ciphertext };
      cut = (
        rw here.cut.0 (simp append_assoc),
        here.cut.1,
        one_line-append d.tag more here.cut.2
            (rw (← c.self.view_is, c.in-Tag.is) at c.requires.digits),
        here.cut.3,
      );
      salt = here.salt;
      tag = c.extend-in-Tag.ensures here.digits.tag here.tag;
      ciphertext = here.ciphertext;
    })

pub returns-in-Ciphertext-clause-taken : goal.returns-in-Ciphertext-clause-taken
returns-in-Ciphertext-clause-taken c limit text has =
    let here = rw (← c.self.view_is, c.in-Ciphertext.is) at has in
    let d = here.digits in
    let more = c.args.digits.now in
    rw c.in-Ciphertext.is (record {
      digits = record { salt = d.salt; tag = d.tag; ciphertext = d.ciphertext ++ more };
      cut = (rw here.cut.0 (simp append_assoc), here.cut.1, here.cut.2);
      salt = here.salt;
      tag = here.tag;
      ciphertext = c.extend-in-Ciphertext.ensures limit here.digits.ciphertext here.ciphertext;
    })
