-- A source or a sink that records the bytes that it gives or takes.
use Rattle.std.specs.Prelude.{◌≡◌, ℕ, ◌++◌, List}

-- the state of the device, and the bytes that it gave or took, in order
pub record Recorded (State : Type 0) : Type 0 where
  pub device : State
  pub bytes : List ℕ

module _ {State : Type 0} (Moves : State → List ℕ → State → Type 0) where
  -- between two states the device moved these bytes, and they were recorded
  pub record Records (old : Recorded State) (moved : List ℕ) (new : Recorded State) : Type 0 where
    pub moves : Moves old.device moved new.device
    pub recorded : new.bytes ≡ old.bytes ++ moved
