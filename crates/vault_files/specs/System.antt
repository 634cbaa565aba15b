-- The system calls that files make.
use Rattle.std.specs.Prelude.{ℕ, List, [], ◌∷◌, take, Result, Ok, Err}

pub data SystemCall : Type 0 where
  -- the file at this path is opened for reading
  Open : List ℕ → SystemCall
  -- the file at this path is opened for writing: as it is, or created for its owner only
  Create : List ℕ → SystemCall
  -- only its owner may read and write that file from now on, if it is a regular one
  ChmodOwnerOnly : SystemCall
  -- it is truncated to zero bytes, if it is a regular one
  Truncate : SystemCall
  -- it takes these bytes
  Write : List ℕ → SystemCall
  -- the bytes it took are synced to its device
  Sync : SystemCall
  -- this call failed
  Failed : SystemCall → SystemCall

-- a call with this result
abbrev pub called : {T E : Type 0} → SystemCall → Result T E → SystemCall
called call (Ok value) = call
called call (Err error) = Failed call

-- a write of these bytes with this result: it takes the first of them, or fails
abbrev pub wrote : {E : Type 0} → List ℕ → Result ℕ E → SystemCall
wrote bytes (Ok count) = Write (take count bytes)
wrote bytes (Err error) = Failed (Write bytes)

-- the calls that open these paths, in this order, each of which may fail
pub data OpenCalls : List (List ℕ) → List SystemCall → Type 0 where
  no_opens : OpenCalls [] []
  opens : (path : List ℕ) (paths : List (List ℕ)) (calls : List SystemCall)
      → OpenCalls paths calls → OpenCalls (path ∷ paths) (Open path ∷ calls)
  fails_to_open : (path : List ℕ) (paths : List (List ℕ)) (calls : List SystemCall)
      → OpenCalls paths calls → OpenCalls (path ∷ paths) (Failed (Open path) ∷ calls)

-- between two states a system was asked to open these paths, in this order, and nothing else
pub record Opens {System : Type 0} (executes : System → List SystemCall → System → Type 0)
    (old : System) (paths : List (List ℕ)) (new : System) : Type 0 where
  pub calls : List SystemCall
  pub executed : executes old calls new
  pub are_opens : OpenCalls paths calls
