-- What a device recorded in two calls, one after the other.
use Rattle.std.specs.Prelude.{ℕ, ◌++◌, List, []}
use Rattle.std.proofs.Common.{sym, append_assoc, ap, ◌∙◌}
use Rattle.std.proofs.lemmas.List.{append-nil}
use Rattle.vault_text.specs.Recorded.{Recorded, Records}

module _ {State : Type 0} {Moves : State → List ℕ → State → Type 0} where
  -- a device that was not called recorded nothing
  pub Records-none : ((s : State) → Moves s [] s) → (s : Recorded State) → Records Moves s [] s
  Records-none none s = record { moves = none s.device; recorded = sym (append-nil s.bytes) }

  -- what it recorded first and what it recorded next stand one after the other
  pub Records-more : ((s t u : State) (xs ys : List ℕ)
      → Moves s xs t → Moves t ys u → Moves s (xs ++ ys) u)
      → (s t u : Recorded State) (xs ys : List ℕ)
      → Records Moves s xs t → Records Moves t ys u → Records Moves s (xs ++ ys) u
  Records-more more s t u xs ys p q = record {
    moves = more s.device t.device u.device xs ys p.moves q.moves;
    recorded = q.recorded ∙ ap (λ z. z ++ ys) p.recorded ∙ append_assoc s.bytes xs ys;
  }
