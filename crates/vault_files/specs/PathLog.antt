-- A log of paths, in reserved memory.
use Rattle.std.specs.Prelude.{ℕ, ◌-◌, nat_lt, nat_le, ◌&&◌, if◌then◌else◌, List, [], ◌∷◌}
use Rattle.std.specs.Prelude.{◌++◌, length, Option, Some, None}
use Rattle.std.specs.Option.{option_and_then}

-- how long a path may be, for how many more there is room, and the logged paths, in order
pub record LogState : Type 0 where
  pub longest : ℕ
  pub room : ℕ
  pub paths : List (List ℕ)

-- a log with room for this many paths
abbrev pub new_log : ℕ → ℕ → LogState
new_log count longest = record { longest = longest; room = count; paths = [] }

-- a log with one more path, if there is room for it
abbrev pub with_path : LogState → List ℕ → Option LogState
with_path log path =
    if nat_le (length path) log.longest && nat_lt 0 log.room then Some
    (record log { room = log.room - 1; paths = log.paths ++ path ∷ [] })
    else None

-- a log, if there is one, after these paths: it is given up at the first that has no room
abbrev pub logged : Option LogState → List (List ℕ) → Option LogState
logged log [] = log
logged log (path ∷ paths) = logged (option_and_then (λ some. with_path some path) log) paths
