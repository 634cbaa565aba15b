-- Files that a system was asked to open in two calls, one after the other.
use Rattle.std.specs.Prelude.{ℕ, List, [], ◌++◌}
use Rattle.vault_files.specs.File.{FileState}
use Rattle.vault_files.specs.System.{OpenCalls, Opens, SystemCall}
use Rattle.vault_files.specs.System.OpenCalls.{no_opens, opens, fails_to_open}

-- opens, followed by more opens
OpenCalls-more : (ps qs : List (List ℕ)) (xs ys : List SystemCall)
    → OpenCalls ps xs → OpenCalls qs ys → OpenCalls (ps ++ qs) (xs ++ ys)
OpenCalls-more _ qs _ ys no_opens q = q
OpenCalls-more _ qs _ ys (opens path paths calls p) q =
    opens path (paths ++ qs) (calls ++ ys) (OpenCalls-more paths qs calls ys p q)
OpenCalls-more _ qs _ ys (fails_to_open path paths calls p) q =
    fails_to_open path (paths ++ qs) (calls ++ ys) (OpenCalls-more paths qs calls ys p q)

module _ {System : Type 0} (executes : System → List SystemCall → System → Type 0) where
  pub Opens-none : ((s : System) → executes s [] s) → (s : System) → Opens executes s [] s
  Opens-none none s = record { calls = []; executed = none s; are_opens = no_opens }

  pub Opens-more : ((s t u : System) (xs ys : List SystemCall)
      → executes s xs t → executes t ys u → executes s (xs ++ ys) u)
      → (s t u : System) (xs ys : List (List ℕ))
      → Opens executes s xs t → Opens executes t ys u → Opens executes s (xs ++ ys) u
  Opens-more more s t u xs ys p q = record {
    calls = p.calls ++ q.calls;
    executed = more s t u p.calls q.calls p.executed q.executed;
    are_opens = OpenCalls-more xs ys p.calls q.calls p.are_opens q.are_opens;
  }

  -- whatever may be found after opens could be found before them
  pub Opens-finds : (finds : System → List ℕ → FileState → Type 0)
      → ((s t : System) (paths : List (List ℕ)) (calls : List SystemCall) (path : List ℕ)
      (file : FileState) → OpenCalls paths calls → executes s calls t → finds t path file
      → finds s path file)
      → (s t : System) (paths : List (List ℕ)) (path : List ℕ) (file : FileState)
      → Opens executes s paths t → finds t path file → finds s path file
  Opens-finds finds back s t paths path file opened found =
      back s t paths opened.calls path file opened.are_opens opened.executed found
