use Rattle.std.proofs.Common.{◌≡◌, ◌≤◌, arith, length, refl, sym, ◌∙◌}
use Rattle.std.proofs.lemmas.Bool.{le-ltb}
use Rattle.vault_text.specs.Limits.{limit_of}
use Rattle.vault_core.specs.Encryption.{encryption}
use Rattle.vault_core.specs.Form.{form_of}
use Rattle.vault_core.proofs.EncryptionLemmas.{encryption-in, encryption-too_long}
use Rattle.vault_core.proofs.encryption.encrypt_plaintext.Goals as goal

pub returns-then-room-lt-PADDING_LIMIT-clause-answer :
    goal.returns-then-room-lt-PADDING_LIMIT-clause-answer
returns-then-room-lt-PADDING_LIMIT-clause-answer c =
    sym (encryption-too_long (limit_of c.args.memory.limit) c.args.secrets.now.secrets c.args.choice
    (form_of c.args.form) c.args.salt.now c.args.memory.bytes
    (omega (arith, c.room.ensures, c.if-room-lt-PADDING_LIMIT.true, c.requires.room.0)))

pub returns-then-n-eq0-clause-answer : goal.returns-then-n-eq0-clause-answer
unfolding encryption
returns-then-n-eq0-clause-answer c =
    let fits : length c.args.memory.bytes ≤ limit_of c.args.memory.limit =
    omega (arith, c.room.ensures, c.if-room-lt-PADDING_LIMIT.false) in
    let none : length c.args.memory.bytes ≡ 0 =
    omega (arith, c.into_bytes_and_spare-work.ensures.length, c.if-n-eq0.true) in
    rw (le-ltb _ _ fits, ← c.if-is_block.ensures, none) refl

pub returns-then-is_vault-clause-answer : goal.returns-then-is_vault-clause-answer
returns-then-is_vault-clause-answer c =
    let work = c.into_bytes_and_spare-work in
    let limit = limit_of c.args.memory.limit in
    let answer = encryption-in limit c.args.secrets.now.secrets c.args.choice (form_of c.args.form)
    c.args.salt.now c.args.memory.bytes work.result.now c.is_block.result
    (omega (arith, c.room.ensures, c.if-room-lt-PADDING_LIMIT.false))
    (omega (arith, work.ensures.length)) work.ensures.bytes c.is_block.ensures
    c.else-is_block.either in
    sym (rw (← c.if-is_vault.ensures) at answer)

pub returns-clause-answer : goal.returns-clause-answer
returns-clause-answer c =
    let work = c.into_bytes_and_spare-work in
    let limit = limit_of c.args.memory.limit in
    let answer = encryption-in limit c.args.secrets.now.secrets c.args.choice (form_of c.args.form)
    c.args.salt.now c.args.memory.bytes work.result.now c.is_block.result
    (omega (arith, c.room.ensures, c.if-room-lt-PADDING_LIMIT.false))
    (omega (arith, work.ensures.length)) work.ensures.bytes c.is_block.ensures
    c.else-is_block.either in
    rw (answer, ← c.if-is_vault.ensures, c.seal-vault.ensures.sealed)
    (rw (c.to_seal_with-secret.ensures ∙ c.get.ensures) refl)
