-- Steps that may each be refused.
use Rattle.std.specs.Prelude.{Result, Ok, Err}

-- bind of `Result`, as Rust's `and_then`: the step on the right gets the value of the one on the
-- left, and an error on the left is the result. `x ← a` on a line of a `do` is the same: the lines
-- below get the value of a as x
infixl 10 ◌>>=◌
abbrev pub ◌>>=◌ : {A B E : Type 0} → Result A E → (A → Result B E) → Result B E
Ok x >>= f = f x
Err e >>= f = Err e
