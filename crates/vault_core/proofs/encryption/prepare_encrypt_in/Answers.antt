use Rattle.vault_text.specs.Limits.{limit_of}
use Rattle.vault_core.specs.Form.{form_of}
use Rattle.vault_core.proofs.EncryptionLemmas.{encryption-is_no_read}
use Rattle.vault_core.proofs.encryption.prepare_encrypt_in.Goals as goal

pub returns-clause-answered : goal.returns-clause-answered
returns-clause-answered g c =
    let read = c.in_ok-read_plaintext.ensures in
    λ _. (
      c.read_plaintext.new.memory.bytes,
      record { read = read.read; answer = rw read.limit at c.encrypt_plaintext.ensures.answer },
    )

pub returns-clause-failed : goal.returns-clause-failed
returns-clause-failed g c =
    let answer = rw c.in_ok-read_plaintext.ensures.limit at c.encrypt_plaintext.ensures.answer in
    let never = rw (← answer) at (encryption-is_no_read (limit_of c.args.memory.limit)
    c.args.secrets.now.secrets c.args.choice (form_of c.args.form) c.args.salt.now
    c.read_plaintext.new.memory.bytes) in
    λ unread. absurd (never unread)
