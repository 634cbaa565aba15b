-- How a contract counts the failures of a source or a sink.
use Rattle.std.specs.Prelude.{◌≡◌, ℕ, ◌+◌, ◌-◌, ◌^◌, ◌≤◌, min, Result, Ok, Err}

-- `u64::MAX`, at which a count of failures saturates
abbrev pub u64_max : ℕ
u64_max = 2 ^ 64 - 1

-- the count is saturated
abbrev pub IsSaturated : ℕ → Type 0
IsSaturated count = u64_max ≤ count

-- the count rose by one, or is saturated
abbrev pub HasRisen : ℕ → ℕ → Type 0
HasRisen before after = after ≡ min (before + 1) u64_max

-- a call that returns an error counts one failure, and no other call counts any
abbrev pub CountsFailure : {T E : Type 0} → ℕ → ℕ → Result T E → Type 0
CountsFailure before after (Ok x) = after ≡ before
CountsFailure before after (Err e) = HasRisen before after

-- a source or a sink over memory that fails at every call after a given number: the memory, how
-- many calls are left, and its failures, including the memory's
pub record FailingState (Memory : Type 0) : Type 0 where
  pub memory : Memory
  pub calls : ℕ
  pub failures : ℕ
