-- Files about which nothing is known.
use Rattle.std.specs.Prelude.{◌≡◌, ℕ, ◌<◌, ◌≤◌, nat_lt, List, length, Ok, Err, true, refl}
use Rattle.std.proofs.Common.{ap, rules, tests}
use Rattle.std.proofs.lemmas.List.{take_all}
use Rattle.vault_files.specs.File.{Answers}
use Rattle.vault_files.specs.File.FileState.{Whole, Broken}
use Rattle.vault_files.specs.declared.fault.FileFault.TheVariants.{CannotRead}

-- the bytes read are a prefix of some file
pub any-prefix : (xs : List ℕ) (n : ℕ) → length xs ≤ n → Answers (λ file. Unit {0}) n (Ok xs)
any-prefix xs n fits = record { file = Whole xs; found = tt; same = ap Ok (take_all n xs fits) }

-- where reading failed, some file breaks
pub any-break : (xs : List ℕ) (n : ℕ) → length xs < n
    → Answers (λ file. Unit {0}) n (Err CannotRead)
any-break xs n short =
    let test : nat_lt (length xs) n ≡ true = search (rules, tests) in
    record { file = Broken xs; found = tt; same = rw test refl }
