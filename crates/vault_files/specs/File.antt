-- Files, as a program finds them.
use Rattle.std.specs.Prelude.{◌≡◌, ℕ, nat_lt, if◌then◌else◌, List, [], ◌∷◌, length, take}
use Rattle.std.specs.Prelude.{Result, Ok, Err}
use Rattle.vault_files.specs.declared.fault.FileFault.{FileFault}
use Rattle.vault_files.specs.declared.fault.FileFault.TheVariants.{CannotOpen, CannotRead}

-- what is found at a path: no file that can be opened; a file with these bytes; or a file that
-- cannot be read past these bytes
pub data FileState : Type 0 where
  Missing : FileState
  Whole : List ℕ → FileState
  Broken : List ℕ → FileState

-- the first bytes of a file, at most this many
abbrev pub prefix : ℕ → FileState → Result (List ℕ) FileFault
prefix limit Missing = Err CannotOpen
prefix limit (Whole bytes) = Ok (take limit bytes)
prefix limit (Broken bytes) =
    if nat_lt (length bytes) limit then Err CannotRead else Ok (take limit bytes)

-- reading a prefix of a file that may be found gives this answer
pub record Answers (finds : FileState → Type 0) (limit : ℕ)
    (answer : Result (List ℕ) FileFault) : Type 0 where
  pub file : FileState
  pub found : finds file
  pub same : prefix limit file ≡ answer

-- a file for each path, which may be found there
abbrev pub Found : (List ℕ → FileState → Type 0) → List (List ℕ) → List FileState → Type 0
Found finds [] [] = Unit {0}
Found finds [] (file ∷ files) = ⊥
Found finds (path ∷ paths) [] = ⊥
Found finds (path ∷ paths) (file ∷ files) = finds path file × Found finds paths files
