-- What readers of the password, and its output, guarantee.
use Rattle.std.specs.Prelude.{◌≡◌, ℕ, ◌≤◌, ◌⊎◌, List, [], ◌∷◌, ◌++◌, length, take, Ok, refl}
use Rattle.std.specs.Prelude.{IsTrue, false}
use Rattle.std.proofs.Common.{inl, inr, arith, sym, ap, ◌∙◌}
use Rattle.std.proofs.lemmas.List.{append-nil, take_all, take-append-le}
use Rattle.std.proofs.lemmas.Bool.{false≢true}
use Rattle.vault_files.specs.File.{Answers}
use Rattle.vault_files.specs.File.FileState.{Whole}
use Rattle.vault_files.specs.System.{OpenCalls, SystemCall}
use Rattle.vault_files.specs.System.OpenCalls.{no_opens, opens, fails_to_open}
use Rattle.vault_text.specs.Failures.{HasRisen}
use Rattle.vault_text.specs.Source.{MemSourceState, MemoryGives}
use Rattle.vault_program_tests.specs.OnePassword.{OnePassword, after, changed, new_reader}

-- what calls leave, and then more calls
after-append : (s : OnePassword) (xs ys : List SystemCall)
    → after s (xs ++ ys) ≡ after (after s xs) ys
after-append s [] ys = refl
after-append s (call ∷ xs) ys = after-append (changed s call) xs ys

pub after-more : (s t u : OnePassword) (xs ys : List SystemCall)
    → t ≡ after s xs → u ≡ after t ys → u ≡ after s (xs ++ ys)
after-more s t u xs ys first then = rw (after-append s xs ys, ← first) then

-- opens change nothing
pub opens-same : (s t : OnePassword) (paths : List (List ℕ)) (calls : List SystemCall)
    → OpenCalls paths calls → t ≡ after s calls → t ≡ s
opens-same s t _ _ no_opens left = left
opens-same s t _ _ (opens path paths calls rest) left = opens-same s t paths calls rest left
opens-same s t _ _ (fails_to_open path paths calls rest) left =
    opens-same s t paths calls rest left

-- the first bytes of a text that begins with the given bytes
take-given : (bytes xs rest : List ℕ) (n : ℕ) → bytes ≡ xs ++ rest → length xs ≤ n
    → (rest ≡ []) ⊎ (length xs ≡ n) → take n bytes ≡ xs
take-given bytes xs rest n e fits (inl none) =
    rw (e, none, append-nil xs) (take_all n xs fits)
take-given bytes xs rest n e fits (inr exact) =
    rw e (take-append-le n xs rest (omega (arith, exact)) ∙ take_all n xs fits)

-- whether all of the password was given, or as much of it as was requested
all-given : (bytes xs : List ℕ) (r t : MemSourceState) (n : ℕ)
    → r ≡ new_reader bytes → MemoryGives r xs t
    → IsTrue t.ended ⊎ (length xs ≡ n) → (t.left ≡ []) ⊎ (length xs ≡ n)
all-given bytes xs r t n e g (inr exact) = inr exact
all-given bytes xs r t n e g (inl ended) =
    inl (g.0.end_is_real
    (λ first. let never : IsTrue false = rw e at first in absurd (false≢true never)) ended)

-- the bytes that a reader gave to its end, or up to a limit, are a prefix of the password
pub prefix-found : (bytes : List ℕ) (r t : MemSourceState) (xs : List ℕ) (n : ℕ)
    → r ≡ new_reader bytes → MemoryGives r xs t → length xs ≤ n
    → IsTrue t.ended ⊎ (length xs ≡ n) → Answers (λ found. found ≡ Whole bytes) n (Ok xs)
prefix-found bytes r t xs n e g fits end =
    let given : bytes ≡ xs ++ t.left = sym (ap (λ s. s.left) e) ∙ g.0.consumed in
    let all = all-given bytes xs r t n e g end in
    record {
      file = Whole bytes;
      found = refl;
      same = ap Ok (take-given bytes xs t.left n given fits all);
    }

-- a reader of memory never fails
pub break-found : {T : Type 0} → HasRisen 0 0 → T
break-found risen = absurd (omega (arith, risen))
