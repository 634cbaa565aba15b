-- The answers of encrypting, by what the input is.
use Rattle.std.proofs.Common.{◌≡◌, ◌≢◌, ℕ, ◌+◌, ◌-◌, ◌<◌, ◌≤◌, ◌⊎◌, Bool, true, false, List, length}
use Rattle.std.proofs.Common.{Ok, Err, refl, inl, inr, arith, take}
use Rattle.std.specs.Prelude.{◌&&◌, ◌==◌, if◌then◌else◌, nat_lt}
use Rattle.std.proofs.lemmas.Bool.{le-ltb, lt-ltb, ltb-false, ne_eqb}
use Rattle.vault_core.specs.Encryption.{encryption, is_vault}
use Rattle.vault_core.specs.Form.{Form, is_block}
use Rattle.vault_core.specs.Ready.{Ready}
use Rattle.vault_core.specs.Sealing.{sealed, text_in}
use Rattle.vault_core.specs.Secrets.{Secret, secret_at}
use Rattle.vault_fault.specs.declared.fault.Fault.TheVariants.{TooLong, EmptyString, AlreadyVault}
use Rattle.vault_fault.specs.declared.fault.Fault.TheVariants.{Read}
use Rattle.vault_fault.specs.declared.fault.Role.TheVariants.{Input}
use Rattle.vault_core.proofs.InputLemmas.{HasAnswered, HasAnswered-is_no_read, HasAnswered-unless}

module _ (limit : ℕ) (secrets : List Secret) (index : ℕ) (form : Form) (salt : List ℕ) where
  -- the plaintext in its form
  abbrev pub encrypted : List ℕ → Ready
  encrypted input =
      record { output = text_in form (sealed (secret_at index secrets) salt input); tried = 0 }

  module _ (input : List ℕ) where
    pub encryption-too_long : limit < length input
        → encryption limit secrets index form salt input ≡ Err TooLong
    unfolding encryption
    encryption-too_long long = rw (lt-ltb _ _ long) refl

    pub encryption-answers : HasAnswered (encryption limit secrets index form salt input)
        (λ ready. (length input ≤ limit) × (ready ≡ encrypted input))
    unfolding encryption
    encryption-answers =
        let P : Ready → Type 0 = λ ready. (length input ≤ limit) × (ready ≡ encrypted input) in
        let none = is_block form && length input == 0 in
        HasAnswered-unless (nat_lt limit (length input)) TooLong _ P (λ read. cc) (λ short.
        HasAnswered-unless none EmptyString _ P (λ read. cc) (λ some.
        HasAnswered-unless (is_vault input) AlreadyVault _ P (λ read. cc) (λ plain.
        (ltb-false _ _ short, refl))))

    pub encryption-is_no_read : encryption limit secrets index form salt input ≢ Err (Read Input)
    encryption-is_no_read =
        HasAnswered-is_no_read _ (encryption limit secrets index form salt input) encryption-answers

  -- what a call seals or refuses: the first bytes of the memory, which hold the input
  pub encryption-in : (input work : List ℕ) (has : Bool)
      → length input ≤ limit → length work ≡ length input + 16 → take (length input) work ≡ input
      → has ≡ is_block form → ((has ≡ true) × (length work - 16 ≢ 0)) ⊎ (has ≡ false)
      → let plain = take (length work - 16) work in
      encryption limit secrets index form salt input
      ≡ (if is_vault plain then Err AlreadyVault else Ok (encrypted plain))
  unfolding encryption
  encryption-in input work has short long held is either =
      let n : length work - 16 ≡ length input = omega arith in
      rw (n, held, le-ltb _ _ short, some either) refl
    where
      some : ((has ≡ true) × (length work - 16 ≢ 0)) ⊎ (has ≡ false)
          → (is_block form && length input == 0) ≡ false
      some (inl (block, full)) = rw (← is, block) (ne_eqb _ _ (λ none. full (omega arith)))
      some (inr envelope) = rw (← is, envelope) refl
