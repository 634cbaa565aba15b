use Rattle.std.proofs.Common.{true, arith, refl, ◌∙◌}
use Rattle.vault_text.specs.Hexadecimal.{new_decoder}
use Rattle.vault_text.proofs.HexadecimalLemmas.{Decodes-pairs, complete-is_new, unhex_on-incomplete}
use Rattle.vault_text.proofs.hexadecimal.HexDecoder.decode_whole.Goals as goal

pub returns-then-is_complete-clause-decoded : goal.returns-then-is_complete-clause-decoded
returns-then-is_complete-clause-decoded c good =
    let new =
    complete-is_new c.args.self.now (c.is_complete.ensures ∙ rw c.if-is_complete.true refl) in
    rw new (Decodes-pairs new_decoder c.args.pairs.now c.decode_pairs.new.bytes true refl
    (rw good at c.decode_pairs.ensures) (omega (arith, c.requires)))

pub returns-else-is_complete-clause-value : goal.returns-else-is_complete-clause-value
returns-else-is_complete-clause-value c =
    let none = unhex_on-incomplete c.args.self.now c.args.pairs.now c.if-is_complete.ensures
    (omega (arith, c.requires)) in
    rw c.if-is_complete.false none
