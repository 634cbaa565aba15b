use Rattle.std.proofs.Common.{◌≡◌, arith, ap, sym, ◌∙◌, false, true}
use Rattle.std.specs.Prelude.{find}
use Rattle.std.proofs.lemmas.List.{at_drop_all}
use Rattle.vault_core.specs.TriedSecrets.{matches, tries}
use Rattle.vault_core.proofs.TriedSecretsLemmas.{found-if, tried_group, tried_group-drop}
use Rattle.vault_core.proofs.TriedSecretsLemmas.{tries-cons_no, tries-cons_yes, tries-nil}
use Rattle.vault_core.proofs.tried_secrets.search_group.Goals as goal
use Rattle.vault_core.proofs.tried_secrets.search_group.Goals.{else-is_member}
use Rattle.vault_core.proofs.tried_secrets.search_group.Goals.{then-is_member+else-is_some}

pub returns-then-is_some-clause-tried : goal.returns-then-is_some-clause-tried
returns-then-is_some-clause-tried c =
    let payload = c.args.payload.now in
    let secret = c.secret-item.result in
    let is_member = rw c.label.ensures at c.is_member.ensures in
    let next = rw (rw is_member at c.if-is_member.true) at
    (tried_group-drop c.args.group payload.label c.args.secrets.now c.loop-secret.secret-index
    secret c.loop-secret-test.true c.secret-item.is) in
    let holds : matches payload secret ≡ true =
    sym (found-if _ _ _ c.keys_if_match-keys.ensures.keys) ∙ sym c.is_some.ensures
    ∙ c.if-is_some.true in
    omega (arith, ap (tries payload) next ∙ tries-cons_yes payload secret _ holds)

pub loop-secret-preserved : goal.loop-secret-preserved
loop-secret-preserved c =
    let payload = c.args.payload.now in
    let secret = c.secret-item.result in
    let kept = c.loop-secret.invariant in
    let is_member = rw c.label.ensures at c.is_member.ensures in
    let step = tried_group-drop c.args.group payload.label c.args.secrets.now
    c.loop-secret.secret-index secret c.loop-secret-test.true c.secret-item.is in
    elim c.if-is_member.branch [
      | else-is_member w ↦
          let next = rw (rw is_member at w.if-is_member.false) at step in
          record {
            found = ap (find (matches payload)) (sym next) ∙ kept.found;
            tried = omega (arith, ap (tries payload) next);
            counted = omega arith;
            few = omega arith;
          }
      | then-is_member+else-is_some w ↦
          let next = rw (rw is_member at w.if-is_member.true) at step in
          let fails : matches payload secret ≡ false =
          sym (found-if _ _ _ w.keys_if_match-keys.ensures.keys) ∙ sym w.is_some.ensures
          ∙ w.if-is_some.false in
          record {
            found = sym (rw fails at (ap (find (matches payload)) next)) ∙ kept.found;
            tried = omega (arith, ap (tries payload) next ∙ tries-cons_no payload secret _ fails);
            counted = omega arith;
            few = omega arith;
          }
    ]

pub returns-clause-tried : goal.returns-clause-tried
returns-clause-tried c =
    let payload = c.args.payload.now in
    let none_left =
    at_drop_all (λ secrets. tries payload (tried_group c.args.group payload.label secrets))
    c.args.secrets.now c.loop-secret.secret-index c.loop-secret-test.false in
    omega (arith, c.loop-secret.invariant.tried, none_left, tries-nil payload)
