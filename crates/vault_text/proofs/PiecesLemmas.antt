-- Pieces of a text that are taken one after another.
use Rattle.std.proofs.Common.{ℕ, List, [], ◌++◌, sym, ap, ◌∙◌, subst, append_assoc}
use Rattle.std.proofs.lemmas.List.{append-nil}
use Rattle.vault_text.specs.Pieces.{TakesPiece, TakesUpTo}

-- the relation between a reader and its text
module _ {State : Type 0} (WasGiven : State → List ℕ → Type 0) where
  pub TakesUpTo-more : (old between new : State) (text middle rest : List ℕ)
      → TakesUpTo WasGiven old text middle between → TakesUpTo WasGiven between middle rest new
      → TakesUpTo WasGiven old text rest new
  TakesUpTo-more old between new text middle rest p q = (
    p.0 ++ q.0,
    p.1 ∙ ap (λ more. p.0 ++ more) q.1 ∙ sym (append_assoc p.0 q.0 rest),
    λ before given. rw (← append_assoc before p.0 q.0) (q.2 (before ++ p.0) (p.2 before given)),
  )

  -- nothing is left
  pub TakesPiece-whole : (old new : State) (text : List ℕ) → TakesUpTo WasGiven old text [] new
      → TakesPiece WasGiven old text new
  TakesPiece-whole old new text p before given =
      subst (λ (piece : List ℕ). WasGiven new (before ++ piece)) (sym (p.1 ∙ append-nil p.0))
      (p.2 before given)
