-- How much a call reads of its input.
use Rattle.std.specs.Prelude.{◌≡◌, ℕ, ◌+◌, ◌≤◌, ◌⊎◌, Bool, IsTrue, List, length}
use Rattle.vault_text.specs.Call.{SourceCall}
use Rattle.vault_text.specs.Failures.{HasRisen}

-- the end was reported, or one byte more than the limit was given
abbrev pub IsReadToEndOrPastLimit : ℕ → Bool → List ℕ → Type 0
IsReadToEndOrPastLimit limit ended input = IsTrue ended ⊎ (length input ≡ limit + 1)

-- a call that reads a source, and asks it for at most one byte past the limit
module _ {S : Type 0} (src : SourceCall S) (limit : ℕ) where
  -- the source does not fail, and this is its input, to the end or to one byte past the limit
  pub record ReadsInput (input : List ℕ) : Type 0 where
    pub gives : src.gives src.old input src.new
    pub bounded : length input ≤ limit + 1
    pub whole : IsReadToEndOrPastLimit limit (src.ended src.new) input
    pub unfailed : src.failures src.new ≡ src.failures src.old

  -- the source fails before it gives a byte past the limit
  pub record ReadFails : Type 0 where
    pub input : List ℕ
    pub gives : src.gives src.old input src.new
    pub short : length input ≤ limit
    pub failed : HasRisen (src.failures src.old) (src.failures src.new)
