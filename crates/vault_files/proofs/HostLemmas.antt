-- System calls from the calls of the standard library that make them up.
use Rattle.std.proofs.Common.{◌≡◌, ◌≢◌, ◌∙◌, ap, ℕ, List, [], ◌∷◌, ◌++◌, append_assoc}
use Rattle.std.proofs.Common.{append-nil, refl, sym, true≢false, take}
use Rattle.std.specs.Prelude.{Result, Ok, Err, IsErr}
use Rattle.std.specs.Result.{is_ok, result_unwrap_or}
use Rattle.std.specs.Fs.{IsFile, file_type}
use Rattle.std.specs.declared.fs.Metadata.{Metadata}
use Rattle.std.specs.IoError.{error_kind}
use Rattle.std.specs.declared.io.Error.{Error}
use Rattle.std.specs.declared.io.ErrorKind.{ErrorKind}
use Rattle.std.specs.declared.io.ErrorKind.TheVariants.{InvalidInput}
use Rattle.vault_files.specs.HostCall.{HostCalls, Outcome, done, outcome}
use Rattle.vault_files.specs.HostSystem.{Executed, IfRegular, MakesUp}
use Rattle.vault_files.specs.HostSystem.IfRegular.{regular, not_regular, unknown}
use Rattle.vault_files.specs.HostSystem.MakesUp.{writes, writes_nothing, syncs, cannot_sync}
use Rattle.vault_files.specs.HostSystem.MakeUpAll.{no_calls, calls}
use Rattle.vault_files.specs.System.{SystemCall, called}
use Rattle.vault_files.specs.System.SystemCall.{Failed, Sync, Write}
use Rattle.vault_files.specs.declared.system.host_files.host_call.HostCall.{HostCall}
use Rattle.vault_files.specs.declared.system.host_files.host_call.HostCall.TheVariants as host

-- only the variant of a result counts
called_done : {T : Type 0} (call : SystemCall) (result : Result T Error)
    → called call (done result) ≡ called call result
called_done call (Ok x) = refl
called_done call (Err e) = refl

abbrev error_of : Outcome (Unit {0}) → ErrorKind
error_of (Ok value) = InvalidInput
error_of (Err error) = error

-- an error is a failed call
pub called_err : {T E : Type 0} (call : SystemCall) (result : Result T E) → IsErr result
    → called call result ≡ Failed call
called_err call (Ok x) is = absurd (true≢false (sym is))
called_err call (Err e) is = refl

module _ (s t : HostCalls) where
  -- the record grew by the calls that make up a system call
  pub executed : (made : HostCalls) (call : SystemCall) → MakesUp made call → t ≡ s ++ made
      → Executed s (call ∷ []) t
  executed made call makes added = record {
    made = made;
    noted = added;
    make_up = rw (← append-nil made) (calls made [] call [] makes no_calls);
  }

  -- a call that makes up a system call by itself
  pub executed_one : {T : Type 0} (by : Outcome (Unit {0}) → HostCall (List ℕ)) (call : SystemCall)
      (result : Result T Error)
      → ((outcome : Outcome (Unit {0})) → MakesUp (by outcome ∷ []) (called call outcome))
      → t ≡ s ++ by (done result) ∷ []
      → Executed s (called call result ∷ []) t
  executed_one by call result makes added =
      rw (← called_done call result)
      (executed (by (done result) ∷ []) (called call (done result)) (makes (done result)) added)

  -- a call that changes a file, if it is a regular one
  module _ (change : Outcome (Unit {0}) → HostCall (List ℕ)) (call : SystemCall)
      (makes : (calls : HostCalls) (outcome : Outcome (Unit {0})) → IfRegular change calls outcome
      → MakesUp calls (called call outcome)) where
    pub executed_unknown : (result : Result Metadata Error) (error : Error) → result ≡ Err error
        → t ≡ s ++ host.Metadata (outcome file_type result) ∷ []
        → Executed s (Failed call ∷ []) t
    executed_unknown result error is added = executed _ _ (makes _ _ (unknown _)) (rw is at added)

    pub executed_not_regular : (result : Result Metadata Error) (file : Metadata)
        → result ≡ Ok file → (IsFile (file_type file) → ⊥)
        → t ≡ s ++ host.Metadata (outcome file_type result) ∷ []
        → Executed s (call ∷ []) t
    executed_not_regular result file is other added =
        executed _ _ (makes _ _ (not_regular _ other)) (rw is at added)

    pub executed_regular : {T : Type 0} (between : HostCalls) (result : Result Metadata Error)
        (file : Metadata) (changed : Result T Error) → result ≡ Ok file → IsFile (file_type file)
        → between ≡ s ++ host.Metadata (outcome file_type result) ∷ []
        → t ≡ between ++ change (done changed) ∷ []
        → Executed s (called call changed ∷ []) t
    executed_regular between result file changed is plain first second =
        let asked : HostCall (List ℕ) = host.Metadata (Ok (file_type file)) in
        let both : t ≡ s ++ asked ∷ change (done changed) ∷ [] =
        second ∙ ap (λ z. z ++ change (done changed) ∷ []) (rw is at first)
        ∙ append_assoc s (asked ∷ []) (change (done changed) ∷ []) in
        rw (← called_done call changed) (executed _ _ (makes _ _ (regular _ _ plain)) both)

  -- a write that took none of its bytes, some of them, or failed
  module _ (bytes : List ℕ) (result : Result ℕ Error)
      (added : t ≡ s ++ host.Write bytes (outcome (λ count. count) result) ∷ []) where
    pub executed_no_write : result ≡ Ok 0 → Executed s (Failed (Write bytes) ∷ []) t
    executed_no_write is = executed _ _ (writes_nothing bytes) (rw is at added)

    pub executed_write : (count : ℕ) → result ≡ Ok count → count ≢ 0
        → Executed s (Write (take count bytes) ∷ []) t
    executed_write count is some =
        executed _ _ (writes bytes (Ok count) (λ same. some (ap (λ r. result_unwrap_or r 0) same)))
        (rw is at added)

    pub executed_failed_write : (error : Error) → result ≡ Err error
        → Executed s (Failed (Write bytes) ∷ []) t
    executed_failed_write error is =
        executed _ _
        (writes bytes (Err (error_kind error)) (λ same. true≢false (sym (ap is_ok same))))
        (rw is at added)

  -- a sync that succeeded, failed because the device cannot be synced, or otherwise
  module _ {T : Type 0} (result : Result T Error)
      (added : t ≡ s ++ host.SyncAll (done result) ∷ []) where
    pub executed_sync : (value : T) → result ≡ Ok value → Executed s (Sync ∷ []) t
    executed_sync value is =
        executed _ _ (syncs (Ok tt) (λ same. true≢false (ap is_ok same))) (rw is at added)

    pub executed_no_sync : (error : Error) → result ≡ Err error → error_kind error ≡ InvalidInput
        → Executed s (Sync ∷ []) t
    executed_no_sync error is invalid =
        executed _ _ cannot_sync (rw invalid at (rw is at added))

    pub executed_failed_sync : (error : Error) → result ≡ Err error
        → error_kind error ≢ InvalidInput → Executed s (Failed Sync ∷ []) t
    executed_failed_sync error is other =
        executed _ _ (syncs (Err (error_kind error)) (λ same. other (ap error_of same)))
        (rw is at added)
