-- A password under every path.
use Rattle.std.specs.Prelude.{ℕ, List, [], ◌∷◌, ◌++◌, false}
use Rattle.vault_files.specs.System.{SystemCall}
use Rattle.vault_files.specs.System.SystemCall.{Truncate, Write}
use Rattle.vault_text.specs.Source.{MemSourceState}

pub record OnePassword : Type 0 where
  pub password : List ℕ
  pub output : List ℕ

-- nothing has been written yet
abbrev pub no_output : List ℕ → OnePassword
no_output password = record { password = password; output = [] }

-- what a call leaves of them
abbrev pub changed : OnePassword → SystemCall → OnePassword
changed files Truncate = record files { output = [] }
changed files (Write bytes) = record files { output = files.output ++ bytes }
changed files call = files

-- what these calls leave of them, in this order
abbrev pub after : OnePassword → List SystemCall → OnePassword
after files [] = files
after files (call ∷ calls) = after (changed files call) calls

-- a reader that has not been read yet
abbrev pub new_reader : List ℕ → MemSourceState
new_reader bytes = record { left = bytes; ended = false; step = 4096 }
