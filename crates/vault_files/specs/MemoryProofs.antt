-- Files in memory: what their readers give, and which calls are made on them.
use Rattle.std.specs.Prelude.{◌≡◌, ℕ, ◌<◌, ◌≤◌, nat_lt, ◌⊎◌, List, [], ◌∷◌, ◌++◌, length, take}
use Rattle.std.specs.Prelude.{Bool, true, false, IsTrue, refl, Ok, Err}
use Rattle.std.proofs.Common.{inl, inr, arith, sym, ap, ◌∙◌, append_assoc, length-append}
use Rattle.std.proofs.Common.{rules, tests}
use Rattle.std.proofs.lemmas.List.{append-nil, nil_from_length, take_all, take-append-le}
use Rattle.std.proofs.lemmas.Bool.{cases_lt, false≢true}
use Rattle.vault_text.specs.Failures.{HasRisen}
use Rattle.vault_files.specs.System.{OpenCalls, SystemCall}
use Rattle.vault_files.specs.System.OpenCalls.{no_opens, opens, fails_to_open}
use Rattle.vault_files.specs.System.SystemCall.{Open, Create, ChmodOwnerOnly, Truncate}
use Rattle.vault_files.specs.System.SystemCall.{Write, Sync, Failed}
use Rattle.vault_files.specs.File.{FileState, prefix}
use Rattle.vault_files.specs.File.FileState.{Missing, Whole, Broken}
use Rattle.vault_files.specs.Memory.{IsAtBreak, IsAtEnd, IsReaderOf, ReaderState, Reads}
use Rattle.vault_files.specs.Memory.{StoreExecutes, StoreState, emptied, new_reader, with_bytes}
use Rattle.vault_files.specs.Memory.{with_created, with_cut, with_file, with_opened, with_sync}
use Rattle.vault_files.specs.PathLog.{logged}
use Rattle.vault_files.specs.declared.fault.FileFault.TheVariants.{CannotRead}

-- a reader that was not called gave nothing
pub Reads-none : (s : ReaderState) → Reads s [] s
Reads-none s = record {
  consumed = refl;
  breaks = refl;
  nothing_after_end = λ e. (refl, e);
  end_is_real = λ sound e. sound e;
  break_is_real = λ risen. absurd (omega (arith, risen));
  failures_monotone = omega arith;
}

-- a reader at the break stays there
break-stays : (t u : ReaderState) (ys : List ℕ) → Reads t ys u → IsAtBreak t → IsAtBreak u
break-stays t u ys q at =
    let none : length (ys ++ u.left) ≡ 0 = ap length (sym q.consumed ∙ at.0) in
    (nil_from_length u.left (omega (arith, none, length-append ys u.left)), q.breaks ∙ at.1)

-- the bytes given first and the bytes given next are given one after the other
pub Reads-more : (s t u : ReaderState) (xs ys : List ℕ)
    → Reads s xs t → Reads t ys u → Reads s (xs ++ ys) u
Reads-more s t u xs ys p q = record {
  consumed = rw (p.consumed, q.consumed) (sym (append_assoc xs ys u.left));
  breaks = q.breaks ∙ p.breaks;
  nothing_after_end = λ e.
      let first = p.nothing_after_end e in
      let then = q.nothing_after_end first.1 in
      (rw (first.0, then.0) refl, then.1);
  end_is_real = λ sound e. q.end_is_real (p.end_is_real sound) e;
  break_is_real = λ risen.
      elim (cases_lt t.failures u.failures) [
        | inl later ↦ q.break_is_real later
        | inr stayed ↦ break-stays t u ys q (p.break_is_real (omega (arith, risen, stayed)))
      ];
  failures_monotone = let a = p.failures_monotone in let b = q.failures_monotone in omega arith;
}

-- the first bytes of a file that begins with the given bytes
pub take-given : (bytes xs rest : List ℕ) (n : ℕ) → bytes ≡ xs ++ rest → length xs ≤ n
    → (rest ≡ []) ⊎ (length xs ≡ n) → take n bytes ≡ xs
take-given bytes xs rest n e fits (inl none) =
    rw (e, none, append-nil xs) (take_all n xs fits)
take-given bytes xs rest n e fits (inr exact) =
    rw e (take-append-le n xs rest (omega (arith, exact)) ∙ take_all n xs fits)

-- a reader reports the end of its file only if it is there
IsAtEnd-ended : (bytes xs : List ℕ) (breaks : Bool) (r t : ReaderState)
    → r ≡ new_reader bytes breaks → Reads r xs t → IsTrue t.ended → IsAtEnd t
IsAtEnd-ended bytes xs breaks r t e g =
    g.end_is_real (λ ended. let never : IsTrue false = rw e at ended in absurd (false≢true never))

-- the bytes that a reader gave to its end, or up to a limit, are a prefix of its file
pub prefix-given : (file : FileState) (r t : ReaderState) (xs : List ℕ) (n : ℕ)
    → IsReaderOf file r → Reads r xs t → length xs ≤ n
    → IsTrue t.ended ⊎ (length xs ≡ n) → prefix n file ≡ Ok xs
prefix-given Missing r t xs n e g fits end = absurd e
prefix-given (Whole bytes) r t xs n e g fits end =
    let given : bytes ≡ xs ++ t.left = sym (ap (λ s. s.left) e) ∙ g.consumed in
    ap Ok (take-given bytes xs t.left n given fits (elim end [
      | inl ended ↦ inl (IsAtEnd-ended bytes xs false r t e g ended).0
      | inr exact ↦ inr exact
    ]))
prefix-given (Broken bytes) r t xs n e g fits (inl ended) =
    let breaks : t.breaks ≡ true = g.breaks ∙ ap (λ s. s.breaks) e in
    absurd (false≢true (sym (IsAtEnd-ended bytes xs true r t e g ended).1 ∙ breaks))
prefix-given (Broken bytes) r t xs n e g fits (inr exact) =
    let given : bytes ≡ xs ++ t.left = sym (ap (λ s. s.left) e) ∙ g.consumed in
    let long : n ≤ length bytes = omega (arith, ap length given, length-append xs t.left, exact) in
    let test : nat_lt (length bytes) n ≡ false = search (rules, tests) in
    rw test (ap Ok (take-given bytes xs t.left n given fits (inr exact)))

-- if it failed before that, its file breaks there
pub break-given : (file : FileState) (r t : ReaderState) (xs : List ℕ) (n : ℕ)
    → IsReaderOf file r → Reads r xs t → length xs < n
    → HasRisen r.failures t.failures → prefix n file ≡ Err CannotRead
break-given Missing r t xs n e g short risen = absurd e
break-given (Whole bytes) r t xs n e g short risen =
    let fresh : r.failures ≡ 0 = ap (λ s. s.failures) e in
    let at = g.break_is_real (omega (arith, fresh, risen)) in
    let whole : t.breaks ≡ false = g.breaks ∙ ap (λ s. s.breaks) e in
    absurd (false≢true (sym whole ∙ at.1))
break-given (Broken bytes) r t xs n e g short risen =
    let fresh : r.failures ≡ 0 = ap (λ s. s.failures) e in
    let at = g.break_is_real (omega (arith, fresh, risen)) in
    let given : bytes ≡ xs ++ t.left = sym (ap (λ s. s.left) e) ∙ g.consumed in
    let count : length bytes ≡ length xs =
    omega (arith, ap length given, length-append xs t.left, ap length at.0) in
    let test : nat_lt (length bytes) n ≡ true = search (rules, tests, count) in
    rw test refl

executes-append : (xs ys : List SystemCall) (t u s : StoreState)
    → StoreExecutes s xs t → StoreExecutes t ys u → StoreExecutes s (xs ++ ys) u
executes-append [] ys t u s p q = rw p at q
executes-append (Open path ∷ xs) ys t u s p q =
    executes-append xs ys t u (with_opened path s) p q
executes-append (Create path ∷ xs) ys t u s (fits, p) q =
    (fits, executes-append xs ys t u (with_created path s) p q)
executes-append (ChmodOwnerOnly ∷ xs) ys t u s p q = executes-append xs ys t u s p q
executes-append (Truncate ∷ xs) ys t u s p q = executes-append xs ys t u (with_file emptied s) p q
executes-append (Write bytes ∷ xs) ys t u s (room, p) q =
    (room, executes-append xs ys t u (with_file (with_bytes bytes room) s) p q)
executes-append (Sync ∷ xs) ys t u s p q = executes-append xs ys t u (with_file with_sync s) p q
executes-append (Failed (Open path) ∷ xs) ys t u s p q =
    executes-append xs ys t u (with_opened path s) p q
executes-append (Failed (Create path) ∷ xs) ys t u s (long, p) q =
    (long, executes-append xs ys t u s p q)
executes-append (Failed (Write bytes) ∷ xs) ys t u s (lacks, (room, p)) q =
    (lacks, (room, executes-append xs ys t u (with_file (with_cut room) s) p q))
executes-append (Failed ChmodOwnerOnly ∷ xs) ys t u s p q = absurd p
executes-append (Failed Truncate ∷ xs) ys t u s p q = absurd p
executes-append (Failed Sync ∷ xs) ys t u s p q = absurd p
executes-append (Failed (Failed call) ∷ xs) ys t u s p q = absurd p

pub StoreExecutes-more : (s t u : StoreState) (xs ys : List SystemCall)
    → StoreExecutes s xs t → StoreExecutes t ys u → StoreExecutes s (xs ++ ys) u
StoreExecutes-more s t u xs ys p q = executes-append xs ys t u s p q

-- opens change only the log
pub opens-logged : (s t : StoreState) (paths : List (List ℕ)) (calls : List SystemCall)
    → OpenCalls paths calls → StoreExecutes s calls t
    → t ≡ record s { log = logged s.log paths }
opens-logged s t _ _ no_opens p = p
opens-logged s t _ _ (opens path paths calls rest) p =
    opens-logged (with_opened path s) t paths calls rest p
opens-logged s t _ _ (fails_to_open path paths calls rest) p =
    opens-logged (with_opened path s) t paths calls rest p

-- so they do not change the files
pub opens-entries : (s t : StoreState) (paths : List (List ℕ)) (calls : List SystemCall)
    → OpenCalls paths calls → StoreExecutes s calls t → t.entries ≡ s.entries
opens-entries s t paths calls opened p =
    ap (λ (u : StoreState). u.entries) (opens-logged s t paths calls opened p)
