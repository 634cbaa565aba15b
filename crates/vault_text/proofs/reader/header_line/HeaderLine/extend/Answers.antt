use Rattle.std.proofs.Common.{arith, refl}
use Rattle.std.proofs.lemmas.List.{take_rest}
use Rattle.vault_text.specs.EnvelopeReader.{IsKept}
use Rattle.vault_text.specs.Pieces.{TakesPiece}
use Rattle.vault_text.proofs.EnvelopeReaderLemmas.{IsKept-more, LineHas-ended, LineHas-more}
use Rattle.vault_text.proofs.reader.header_line.HeaderLine.extend.Goals as goal

pub returns-then-self-clause-line : goal.returns-then-self-clause-line
returns-then-self-clause-line c input has =
    (LineHas-ended _ input c.args.text.now (rw (← c.self.view_is) c.if-self.true) has).0

pub returns-then-self-clause-body : goal.returns-then-self-clause-body
returns-then-self-clause-body c input has =
    (LineHas-ended _ input c.args.text.now (rw (← c.self.view_is) c.if-self.true) has).1

pub returns-clause-line : goal.returns-clause-line
returns-clause-line c input has =
    let kept = rw c.unwrap.ensures at c.try_extend_from_slice.ensures.ok in
    (LineHas-more _ _ input c.args.text.now _ c.if-self.false c.before_line_end-line.ensures.line
    refl (λ line. rw kept (IsKept-more _ _ line c.min-count.result
    (omega (arith, c.remaining_capacity.ensures, c.min-count.ensures))))
    (rw (← c.self.view_is) at has)).0

pub returns-clause-body : goal.returns-clause-body
returns-clause-body c input has =
    let kept = rw c.unwrap.ensures at c.try_extend_from_slice.ensures.ok in
    let taken : TakesPiece IsKept c.self.inside.kept.items c.before_line_end-line.result.now
    c.try_extend_from_slice.new.self.items =
    λ line. rw kept (IsKept-more _ _ line c.min-count.result
    (omega (arith, c.remaining_capacity.ensures, c.min-count.ensures))) in
    rw take_rest (LineHas-more _ (record {
      kept = c.try_extend_from_slice.new.self.items;
      has_ended = _;
    }) input c.args.text.now _ c.if-self.false
    c.before_line_end-line.ensures.line refl taken (rw (← c.self.view_is) at has)).1
