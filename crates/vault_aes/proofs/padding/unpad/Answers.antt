use Rattle.std.proofs.Common.{◌≡◌, arith, inl, inr, length, rules, sym, ◌-◌}
use Rattle.std.proofs.lemmas.Bool.{cases_Bool}
use Rattle.std.proofs.lemmas.List.{take_rest}
use Rattle.vault_aes.proofs.PaddingLemmas.{IsPadded-same, last-padded, last_of, length-padded}
use Rattle.vault_aes.proofs.PaddingLemmas.{not_padded-other, padded-unique}
use Rattle.vault_aes.proofs.padding.unpad.Goals as goal

pub returns-in_err-count-clause-none : goal.returns-in_err-count-clause-none
returns-in_err-count-clause-none c =
    rw c.from_residual.ensures (λ plain padding.
    omega (
      arith,
      rw (← padded-unique plain _ padding) at (length-padded plain),
      c.in_err-count.ensures.item,
    ))

pub returns-then-padded-ne0-clause-none : goal.returns-then-padded-ne0-clause-none
returns-then-padded-ne0-clause-none c = λ plain padding.
    let is = sym (padded-unique plain c.args.padded.now padding) in
    let last : c.in_ok-count.field-0.now ≡ last_of c.args.padded.now =
    c.in_ok-count.ensures.item.3.1 0 in
    let size = rw is at (length-padded plain) in
    let counted = rw is at (last-padded plain) in
    grind arith

pub returns-clause-plaintext : goal.returns-clause-plaintext
returns-clause-plaintext c =
    let text = c.args.padded.now in
    let count = c.in_ok-count.field-0.now in
    let same = IsPadded-same text count c.all_are.result (c.in_ok-count.ensures.item.3.1 0)
    (omega arith) (omega arith) (omega (arith, c.in_ok-count.ensures.item.3.0)) (search rules)
    (rw (take_rest text (length text - count)) at c.all_are.ensures) in
    rw c.then_some.ensures (elim (cases_Bool c.all_are.result) [
      | inl holds ↦ rw holds (same holds)
      | inr fails ↦ rw fails tt
    ])

pub returns-clause-none : goal.returns-clause-none
returns-clause-none c =
    let text = c.args.padded.now in
    let count = c.in_ok-count.field-0.now in
    let other = not_padded-other text count c.all_are.result (c.in_ok-count.ensures.item.3.1 0)
    (omega arith) (omega arith) (omega (arith, c.in_ok-count.ensures.item.3.0)) (search rules)
    (rw (take_rest text (length text - count)) at c.all_are.ensures) in
    rw c.then_some.ensures (elim (cases_Bool c.all_are.result) [
      | inl holds ↦ rw holds tt
      | inr fails ↦ rw fails (other fails)
    ])
