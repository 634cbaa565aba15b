-- Secrets that are tried one after the other, and the comparison of their tags.
use Rattle.std.proofs.Common.{◌≡◌, ℕ, ◌+◌, ◌<◌, ◌≤◌, min, Bool, true, false, List, [], ◌∷◌, ◌++◌}
use Rattle.std.proofs.Common.{length, get_or, drop, take, Option, Some, None, arith, refl, ap, ◌∙◌}
use Rattle.std.proofs.Common.{inl, inr, sym}
use Rattle.std.specs.Int.Bits.{or_zero_l, xor_assoc, xor_self, xor_zero_l, xor_zero_r}
use Rattle.std.specs.Prelude.{if◌then◌else◌, bit_or, bit_xor, filter, find, is_some, ◌↔◌}
use Rattle.std.specs.List.{position_or_len}
use Rattle.std.specs.Option.{option_map, option_map_or, option_or}
use Rattle.std.proofs.lemmas.Bool.{cases_Bool, cases_lt, le-ltb, lt-ltb}
use Rattle.std.proofs.lemmas.List.{drop_more, get_or-take, take-take, take_more_same}
use Rattle.std.proofs.lemmas.List.Folds.{find-append}
use Rattle.std.proofs.lemmas.List.Sums.{count_by-le-length, length-filter}
use Rattle.std.proofs.lemmas.Nat.{le_or_l, le_or_r}
use Rattle.vault_text.specs.Envelope.{Payload}
use Rattle.vault_core.specs.Group.{is_member}
use Rattle.vault_core.specs.TriedSecrets.{matches, tries}
use Rattle.vault_core.specs.declared.tried_secrets.Group.{Group}
use Rattle.vault_core.specs.declared.tried_secrets.Group.TheVariants.{SameLabel}
use Rattle.vault_core.specs.Secrets.{Secret, SecretList, tried_after, tried_order}
use Rattle.vault_fault.specs.declared.label_rule.LabelRule.{LabelRule}

tries-min : (payload : Payload) (order : List Secret)
    → tries payload order ≡ min (position_or_len (matches payload) order + 1) (length order)
unfolding tries
tries-min payload order =
    let index = position_or_len (matches payload) order in
    elim (cases_lt index (length order)) [
      | inl found ↦ rw (lt-ltb index (length order) found) (omega arith)
      | inr none ↦ rw (le-ltb index (length order) none) (omega arith)
    ]

pub tries-cons_yes : (payload : Payload) (secret : Secret) (order : List Secret)
    → matches payload secret ≡ true
    → tries payload (secret ∷ order) ≡ 1
tries-cons_yes payload secret order holds =
    tries-min payload (secret ∷ order) ∙ rw holds (omega arith)

pub tries-cons_no : (payload : Payload) (secret : Secret) (order : List Secret)
    → matches payload secret ≡ false
    → tries payload (secret ∷ order) ≡ 1 + tries payload order
tries-cons_no payload secret order fails =
    tries-min payload (secret ∷ order) ∙ rw fails (omega (arith, tries-min payload order))

pub tries-nil : (payload : Payload) → tries payload [] ≡ 0
tries-nil payload = omega (arith, tries-min payload [])

-- the tries of one list after another
pub tries-append : (payload : Payload) (prefix suffix : List Secret)
    → tries payload (prefix ++ suffix)
    ≡ tries payload prefix
    + option_map_or (λ _. 0) (find (matches payload) prefix) (tries payload suffix)
tries-append payload [] suffix = omega (arith, tries-nil payload)
tries-append payload (x ∷ prefix) suffix =
    elim (cases_Bool (matches payload x)) [
      | inl holds ↦
          rw (holds, tries-cons_yes payload x _ holds, tries-cons_yes payload x _ holds) refl
      | inr fails ↦
          let later = tries-append payload prefix suffix in
          rw (fails, tries-cons_no payload x _ fails, tries-cons_no payload x _ fails)
          (omega (arith, later))
    ]

-- no more are tried than there are
pub tries-filter : (payload : Payload) (p : Secret → Bool) (secrets : List Secret)
    → tries payload (filter p secrets) ≤ length secrets
tries-filter payload p secrets =
    let least = tries-min payload (filter p secrets) in
    omega (arith, length-filter p secrets, count_by-le-length p secrets)

abbrev pub tried_group : Group → List ℕ → List Secret → List Secret
tried_group group label secrets = filter (is_member group label) secrets

-- the group that is left, from a secret that is in it or is not
pub tried_group-drop : (group : Group) (label : List ℕ) (secrets : List Secret) (i : ℕ)
    (secret : Secret)
    → i < length secrets → secret ≡ get_or secrets i secret
    → let rest = tried_group group label (drop (i + 1) secrets) in
    tried_group group label (drop i secrets)
    ≡ (if is_member group label secret then secret ∷ rest else rest)
tried_group-drop group label secrets i secret inside is =
    ap (tried_group group label) (drop_more secrets i secret inside) ∙ rw (← is) refl

-- something is found if a condition holds
pub found-if : {A : Type 0} (condition : Bool) (x : A) (found : Option A)
    → found ≡ (if condition then Some x else None) → is_some found ≡ condition
found-if true x found is = ap is_some is
found-if false x found is = ap is_some is

-- the keys of a secret that was found, or of none
pub found-some : {A B : Type 0} (f : A → B) (o : Option A) (found : Option B)
    → found ≡ option_map f o → is_some found ≡ true
    → (x : A) × (o ≡ Some x) × (found ≡ Some (f x))
found-some f None found is some = absurd cc
found-some f (Some x) found is some = (x, refl, is)

pub found-none : {A B : Type 0} (f : A → B) (o : Option A) (found : Option B)
    → found ≡ option_map f o → is_some found ≡ false → o ≡ None
found-none f None found is none = refl
found-none f (Some x) found is none = absurd cc

-- if a secret with the label matches, no other is tried
pub tried_order-groups : (payload : Payload) (list : SecretList) (label : List ℕ)
    (rule : LabelRule)
    → list.rule ≡ rule
    → let first = tried_group SameLabel label list.secrets in
    let others = tried_after rule label list.secrets in
    (find (matches payload) (tried_order list label)
    ≡ option_or (find (matches payload) first) (find (matches payload) others))
    × (tries payload (tried_order list label)
    ≡ tries payload first
    + option_map_or (λ _. 0) (find (matches payload) first) (tries payload others))
unfolding tried_order
tried_order-groups payload list label rule is =
    rw is (find-append (matches payload) _ _, tries-append payload _ _)

-- ---- tags whose differences are collected byte by byte

-- the differences so far are none exactly if the first n bytes are the same
abbrev pub CarriesPrefixesOver : List ℕ → List ℕ → ℕ → ℕ → Type 0
CarriesPrefixesOver one other n differences = (differences ≡ 0) ↔ (take n one ≡ take n other)

-- two bytes without a difference
same_byte : (x y : ℕ) → bit_xor x y ≡ 0 → x ≡ y
same_byte x y none =
    sym (xor_zero_r x) ∙ ap (bit_xor x) (sym (xor_self y)) ∙ sym (xor_assoc x y y)
    ∙ ap (λ z. bit_xor z y) none ∙ xor_zero_l y

-- one more byte
pub carries_more_over : (one other : List ℕ) (n differences : ℕ) → n < length one → n < length other
    → CarriesPrefixesOver one other n differences
    → CarriesPrefixesOver one other (n + 1)
    (bit_or differences (bit_xor (get_or one n 0) (get_or other n 0)))
carries_more_over one other n differences inside inside_other so_far = (
  λ none.
      let before : differences ≡ 0 = omega (arith, none, le_or_l differences (bit_xor x y)) in
      let here : bit_xor x y ≡ 0 = omega (arith, none, le_or_r differences (bit_xor x y)) in
      take_more_same one other n 0 inside inside_other (so_far.0 before) (same_byte x y here),
  λ same.
      let prefix : take n one ≡ take n other =
      sym (take-take n (n + 1) one (omega arith)) ∙ ap (take n) same
      ∙ take-take n (n + 1) other (omega arith) in
      let byte : x ≡ y =
      sym (get_or-take (n + 1) one n 0 (omega arith)) ∙ ap (λ bytes. get_or bytes n 0) same
      ∙ get_or-take (n + 1) other n 0 (omega arith) in
      rw (so_far.1 prefix, byte) (or_zero_l (bit_xor y y) ∙ xor_self y),
)
  where
    x : ℕ
    x = get_or one n 0

    y : ℕ
    y = get_or other n 0
