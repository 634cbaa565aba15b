use Rattle.std.proofs.Common.{◌≡◌, ℕ, ◌*◌, ◌/◌, ◌%◌, take, drop, length, arith, length-take}
use Rattle.std.proofs.lemmas.List.{take_at}
use Rattle.vault_text.proofs.HexadecimalLemmas.{Decodes-aligned, Decodes-pairs}
use Rattle.vault_text.proofs.hexadecimal.HexDecoder.decode_aligned.Goals as goal

pub returns-clause-decoded : goal.returns-clause-decoded
returns-clause-decoded c =
    let digits = c.args.digits.now in
    let count = length digits / 2 in
    let aligned = rw (← c.self.view_is) at c.requires.aligned in
    let len : length c.decode_pairs.new.bytes ≡ count =
    omega (arith, c.decode_pairs.auto.bytes, length-take {A = ℕ}) in
    let found = rw c.split_at.ensures.front at c.decode_pairs.ensures in
    let even : length (take (2 * count) digits) % 2 ≡ 0 =
    omega (arith, length-take (2 * count) digits) in
    let decoded = Decodes-pairs
    (record { high = c.self.inside.high; is_bad = c.self.inside.is_bad }) (take (2 * count) digits)
    c.decode_pairs.new.bytes c.decode_pairs.result aligned found even in
    rw (
      take_at c.decode_pairs.new.bytes (drop count c.args.bytes.now) count len,
      c.copied-self-inside.ensures,
      c.first.ensures.value,
      c.split_at.ensures.back,
      ← c.self.view_is,
    )
    (Decodes-aligned _ _ digits c.decode_pairs.new.bytes count aligned (omega arith) decoded)
