-- What is refused is refused with status 1 alone, never for a device or for memory.
use Rattle.std.proofs.Common.{◌≡◌, ℕ, ◌==◌, ◌&&◌, nat_lt, if◌then◌else◌, Bool, true, false, List}
use Rattle.std.proofs.Common.{length, Option, Some, None, Result, Ok, Err, refl, arith}
use Rattle.std.specs.Prelude.{find, MatchResult}
use Rattle.std.specs.Option.{ok_or}
use Rattle.std.specs.Result.{result_map_both}
use Rattle.vault_text.specs.Envelope.{Payload, read_within}
use Rattle.vault_text.specs.Steps.{◌>>=◌}
use Rattle.vault_fault.specs.Fault.{of_text}
use Rattle.vault_fault.specs.declared.fault.Fault.{Fault}
use Rattle.vault_fault.specs.declared.fault.Fault.TheVariants.{AlreadyVault, BadPadding, TooLong}
use Rattle.vault_fault.specs.declared.fault.Fault.TheVariants.{EmptyString, NoSecretFits}
use Rattle.vault_core.specs.TriedSecrets.{matches}
use Rattle.vault_core.specs.Decryption.{decryption, payload_of}
use Rattle.vault_core.specs.Encryption.{encryption, is_vault}
use Rattle.vault_core.specs.Form.{is_block}
use Rattle.vault_core.specs.Unsealing.{unsealing, plaintext_of}
use Rattle.vault_core.specs.Rekeying.{rekeying, rekeying_of_payload}
use Rattle.vault_core.specs.Secrets.{SecretList, tried_order}
use Rattle.vault_cli.specs.runs.Answer.{prepared}
use Rattle.vault_cli.specs.runs.Status.{status_of}
use Rattle.vault_cli.specs.runs.Task.{Task, Encrypt, Decrypt, Rekey}
use Rattle.vault_cli.specs.declared.runs.status.Status.TheVariants.{Refused}

-- the fact holds of the answer, or it is a fault that is refused with status 1
abbrev pub Keeps : {A : Type 0} → (A → Type 0) → Result A Fault → Type 0
Keeps P answer = MatchResult answer P (λ fault. status_of fault ≡ Refused)

abbrev pub IsRefusedAlone : {A : Type 0} → Result A Fault → Type 0
IsRefusedAlone answer = Keeps (λ _. Unit {0}) answer

pub next : {A B : Type 0} (P : A → Type 0) (Q : B → Type 0) (r : Result A Fault)
    (f : A → Result B Fault)
    → Keeps P r → ((x : A) → P x → Keeps Q (f x)) → Keeps Q (r >>= f)
next P Q (Ok x) f first rest = rest x first
next P Q (Err fault) f first rest = first

pub unless : {A : Type 0} (P : A → Type 0) (b : Bool) (fault : Fault) (r : Result A Fault)
    → status_of fault ≡ Refused → Keeps P r → Keeps P (if b then Err fault else r)
unless P true fault r refused rest = refused
unless P false fault r refused rest = rest

-- a fault of another kind, named as a run names it
pub named : {A E : Type 0} (P : A → Type 0) (of : E → Fault) (r : Result A E)
    → ((x : A) → r ≡ Ok x → P x) → ((fault : E) → status_of (of fault) ≡ Refused)
    → Keeps P (result_map_both (λ x. x) of r)
named P of (Ok x) keeps refused = keeps x refl
named P of (Err fault) keeps refused = refused fault

absent : {A : Type 0} (o : Option A) (fault : Fault) → status_of fault ≡ Refused
    → IsRefusedAlone (ok_or o fault)
absent (Some x) fault refused = tt
absent None fault refused = refused

unseals : (secrets : SecretList) (payload : Payload) → IsRefusedAlone (unsealing secrets payload)
unfolding unsealing
unseals secrets payload =
    next (λ _. Unit {0}) (λ _. Unit {0}) _ _
    (absent (find (matches payload) (tried_order secrets payload.label)) NoSecretFits refl)
    (λ secret _. next (λ _. Unit {0}) (λ _. Unit {0}) _ _
    (absent (plaintext_of payload secret) BadPadding refl) (λ plain _. tt))

reads : (limit : ℕ) (input : List ℕ) → IsRefusedAlone (payload_of limit input)
reads limit input =
    named _ of_text (read_within limit input) (λ payload read. tt) (λ fault. grind arith)

-- steps 13 and 14
pub alone-prepared : (limit : ℕ) (task : Task) (input : List ℕ)
    → IsRefusedAlone (prepared limit task input)
unfolding encryption decryption rekeying rekeying_of_payload
alone-prepared limit (Encrypt secrets index form salt) input =
    unless _ (nat_lt limit (length input)) TooLong _ refl
    (unless _ (is_block form && length input == 0) EmptyString _ refl
    (unless _ (is_vault input) AlreadyVault _ refl tt))
alone-prepared limit (Decrypt secrets) input =
    next (λ _. Unit {0}) _ (payload_of limit input) _ (reads limit input)
    (λ payload _. unseals secrets payload)
alone-prepared limit (Rekey secrets new salt) input =
    next (λ _. Unit {0}) _ (payload_of limit input) _ (reads limit input)
    (λ payload _. next (λ _. Unit {0}) _ (unsealing secrets payload) _ (unseals secrets payload)
    (λ unsealed _. unless _ (is_vault unsealed.output) AlreadyVault _ refl tt))
