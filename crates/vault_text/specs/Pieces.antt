-- Readers of a text that comes in pieces, each with a relation that says what it keeps of the text
-- so far.
use Rattle.std.specs.Prelude.{◌≡◌, ℕ, List, ◌++◌}

-- a reader that was given a text before has now been given that text followed by this piece
abbrev pub TakesPiece : {State : Type 0} → (State → List ℕ → Type 0) → State → List ℕ → State
    → Type 0
TakesPiece WasGiven old piece new =
    (text : List ℕ) → WasGiven old text → WasGiven new (text ++ piece)

-- the same for a prefix of a piece, up to the rest of it
abbrev pub TakesUpTo : {State : Type 0} → (State → List ℕ → Type 0) → State → List ℕ → List ℕ
    → State → Type 0
TakesUpTo WasGiven old piece rest new =
    (prefix : List ℕ) × (piece ≡ prefix ++ rest) × TakesPiece WasGiven old prefix new
