use Rattle.std.proofs.Common.{arith, ap, refl, sym, ◌∙◌}
use Rattle.std.specs.Option.{option_map}
use Rattle.vault_core.specs.TriedSecrets.{keys_of}
use Rattle.vault_core.proofs.TriedSecretsLemmas.{found-none, found-some}
use Rattle.vault_core.proofs.TriedSecretsLemmas.{tried_order-groups, tries-filter, tries-nil}
use Rattle.vault_core.proofs.tried_secrets.find_match.Goals as goal

pub returns-then-is_some : goal.returns-then-is_some
returns-then-is_some c =
    let payload = c.args.payload.now in
    let list = c.as_slice-list.ensures in
    let same = rw list.secrets at c.search_group-same.ensures in
    let found = found-some (keys_of payload) _ _ same.keys
    (sym c.is_some.ensures ∙ c.if-is_some.true) in
    let order =
    rw found.1 at (tried_order-groups payload c.args.secrets.now payload.label _ refl) in
    record {
      keys = same.keys ∙ ap (option_map (keys_of payload)) (found.1 ∙ sym order.0);
      tried = omega arith;
      counted = same.counted;
      countable = omega (arith, tries-filter);
    }

pub search_group-others-requires : goal.search_group-others-requires
search_group-others-requires c = omega (arith, tries-filter)

pub overflow_add-result : goal.overflow_add-result
overflow_add-result c = omega (arith, tries-filter)

pub returns-in-Hint : goal.returns-in-Hint
returns-in-Hint c =
    let payload = c.args.payload.now in
    let list = c.as_slice-list.ensures in
    let same = rw list.secrets at c.search_group-same.ensures in
    let others = rw list.secrets at c.search_group-others.ensures in
    let none = found-none (keys_of payload) _ _ same.keys
    (sym c.is_some.ensures ∙ c.if-is_some.false) in
    let order = rw none at (tried_order-groups payload c.args.secrets.now payload.label _
    (sym c.rule.ensures ∙ c.in-Hint.is)) in
    record {
      keys = others.keys ∙ ap (option_map (keys_of payload)) (sym order.0);
      tried = omega arith;
      counted = omega arith;
      countable = omega (arith, tries-filter);
    }

pub returns-in-Required : goal.returns-in-Required
returns-in-Required c =
    let payload = c.args.payload.now in
    let list = c.as_slice-list.ensures in
    let same = rw list.secrets at c.search_group-same.ensures in
    let none = found-none (keys_of payload) _ _ same.keys
    (sym c.is_some.ensures ∙ c.if-is_some.false) in
    let order = rw none at (tried_order-groups payload c.args.secrets.now payload.label _
    (sym c.rule.ensures ∙ c.in-Required.is)) in
    record {
      keys = same.keys ∙ ap (option_map (keys_of payload)) (none ∙ sym order.0);
      tried = omega (arith, tries-nil payload);
      counted = same.counted;
      countable = omega (arith, tries-filter);
    }
