-- What a call returns that read its input.
use Rattle.std.proofs.Common.{◌≡◌, ◌≢◌, ◌⊎◌, Bool, true, false}
use Rattle.std.proofs.Common.{Option, Some, None, Result, Ok, Err, inl, inr, refl}
use Rattle.std.specs.Prelude.{if◌then◌else◌, MatchResult}
use Rattle.std.specs.Option.{ok_or}
use Rattle.vault_text.specs.Steps.{◌>>=◌}
use Rattle.vault_fault.specs.declared.fault.Fault.{Fault}
use Rattle.vault_fault.specs.declared.fault.Fault.TheVariants.{Read}
use Rattle.vault_fault.specs.declared.fault.Role.TheVariants.{Input}

pub Ok-is_no_read : {A : Type 0} (x : A) → Ok x ≢ Err (Read Input)
Ok-is_no_read x unread = cc

-- a result says that the source failed, or it does not
pub cases_unread : {A : Type 0} (result : Result A Fault)
    → (result ≡ Err (Read Input)) ⊎ (result ≢ Err (Read Input))
cases_unread (Ok x) = inr (Ok-is_no_read x)
cases_unread (Err (Read Input)) = inl refl
cases_unread (Err fault) = inr (λ unread. cc)

-- the fact holds of the answer, or it is a fault, and none of reading
abbrev pub HasAnswered : {A : Type 0} → Result A Fault → (A → Type 0) → Type 0
HasAnswered answer P = MatchResult answer P (λ fault. fault ≢ Read Input)

pub HasAnswered-is_no_read : {A : Type 0} (P : A → Type 0) (answer : Result A Fault)
    → HasAnswered answer P → answer ≢ Err (Read Input)
HasAnswered-is_no_read P (Ok x) answered unread = cc
HasAnswered-is_no_read P (Err fault) other unread = other cc

pub HasAnswered-steps : {A B : Type 0} (r : Result A Fault) (f : A → Result B Fault)
    (P : A → Type 0) (Q : B → Type 0)
    → HasAnswered r P → ((x : A) → r ≡ Ok x → P x → HasAnswered (f x) Q) → HasAnswered (r >>= f) Q
HasAnswered-steps (Ok x) f P Q first rest = rest x refl first
HasAnswered-steps (Err fault) f P Q first rest = first

pub HasAnswered-ok_or : {A : Type 0} (o : Option A) (fault : Fault) → fault ≢ Read Input
    → HasAnswered (ok_or o fault) (λ x. o ≡ Some x)
HasAnswered-ok_or (Some x) fault other = refl
HasAnswered-ok_or None fault other = other

pub HasAnswered-unless : {A : Type 0} (b : Bool) (fault : Fault) (r : Result A Fault)
    (P : A → Type 0)
    → fault ≢ Read Input → (b ≡ false → HasAnswered r P)
    → HasAnswered (if b then Err fault else r) P
HasAnswered-unless true fault r P other rest = other
HasAnswered-unless false fault r P other rest = rest refl
