use Rattle.std.proofs.Common.{◌≡◌, ◌-◌, ◌++◌, ◌≤◌, None, drop, length, refl, ℕ, arith}
use Rattle.std.proofs.Common.{length-append, length-take, length-drop}
use Rattle.std.proofs.lemmas.List.{take_at}
use Rattle.vault_text.proofs.SourceLemmas.{take-written}
use Rattle.vault_text.proofs.HexadecimalLemmas.{Decodes-more, Decodes-pairs, Decodes-waiting}
use Rattle.vault_text.proofs.hexadecimal.HexDecoder.decode.Goals as goal

pub returns-clause-decoded : goal.returns-clause-decoded
returns-clause-decoded c =
    let first = c.decode_pairs.new.bytes in
    let old = c.args.bytes.now in
    let rest = c.decode_aligned-2.new.bytes in
    let n = c.decode_aligned-2.result in
    let digits_are = c.in-Some-split_first.ensures.cases.0 in
    let room = rw (← c.self.view_is, c.in-Some.is, digits_are) at c.requires in
    let len : length first ≡ 1 =
    omega (arith, room, c.decode_pairs.auto.bytes, length-take {A = ℕ}) in
    let inside : 1 ≤ length (first ++ drop 1 old) = omega (arith, length-append {A = ℕ}) in
    let fits : n ≤ length rest =
    omega (arith, room, length-append {A = ℕ}, length-take {A = ℕ}, length-drop {A = ℕ}) in
    let pair = Decodes-pairs (record { high = None; is_bad = c.self.inside.is_bad })
    c.as_slice.result.now first c.decode_pairs.result refl c.decode_pairs.ensures
    (rw c.as_slice.ensures refl) in
    let decoded = Decodes-more _ _ _ _ _ _ _ pair c.decode_aligned-2.ensures.decoded in
    rw (
      take-written 1 n (length (first ++ drop 1 old) - 1) (first ++ drop 1 old) rest inside fits,
      take_at first (drop 1 old) 1 len,
      ← c.self.view_is,
    )
    (Decodes-waiting (record { high = c.self.inside.high; is_bad = c.self.inside.is_bad }) _ _
    c.in-Some.high _ _ c.in-Some.is refl refl
    (rw digits_are (rw c.as_slice.ensures at decoded)))
