-- The rows of a command, and what they settle.
use Rattle.std.proofs.Common.{◌≡◌, ℕ, List, [], map, Option, Some, None, unwrap_or, refl}
use Rattle.std.specs.Option.{option_map}
use Rattle.std.specs.Prelude.{is_some}
use denote.Ref.{Bor}

pub is_some-map : {A B : Type 0} (f : A → B) (o : Option A) → is_some o ≡ is_some (option_map f o)
is_some-map f None = refl
is_some-map f (Some x) = refl

-- the values that were given, or none
pub values_or_none : (values : Option (Bor (List (Bor (List ℕ)))))
    (all none : Bor (List (Bor (List ℕ)))) (given : Option (List (List ℕ)))
    → none.now ≡ [] → all ≡ unwrap_or values none
    → option_map (λ s. map (λ v. v.now) s.now) values ≡ given
    → map (λ v. v.now) all.now ≡ unwrap_or given []
values_or_none (Some values) all none given e is same = rw (is, ← same) refl
values_or_none None all none given e is same = rw (is, ← same, e) refl
