-- Calls of the standard library on files, as they are recorded.
use Rattle.std.specs.Prelude.{ℕ, List, [], ◌∷◌, ◌++◌, Result}
use Rattle.std.specs.Borrow.{Bor}
use Rattle.std.specs.IoError.{error_kind}
use Rattle.std.specs.Result.{result_map_both}
use Rattle.std.specs.declared.io.Error.{Error}
use Rattle.std.specs.declared.io.ErrorKind.{ErrorKind}
use Rattle.vault_files.specs.declared.system.host_files.host_call.HostCall.{HostCall}
use Rattle.vault_files.specs.declared.system.host_files.host_call.HostCall.TheVariants as host

-- a record of calls, in order
abbrev pub HostCalls : Type 0
HostCalls = List (HostCall (List ℕ))

-- how a call ended
abbrev pub Outcome : Type 0 → Type 0
Outcome T = Result T ErrorKind

-- the outcome of a call with this result, of whose value only this is recorded
abbrev pub outcome : {T U : Type 0} → (T → U) → Result T Error → Outcome U
outcome recorded result = result_map_both recorded error_kind result

-- the same, where nothing of the value is recorded
abbrev pub done : {T : Type 0} → Result T Error → Outcome (Unit {0})
done result = outcome (λ _. tt) result

-- a call with its path or its bytes in place of a reference to them
abbrev pub copied : HostCall (Bor (List ℕ)) → HostCall (List ℕ)
copied (host.OpenToRead path outcome) = host.OpenToRead path.now outcome
copied (host.OpenToWrite path mode outcome) = host.OpenToWrite path.now mode outcome
copied (host.Metadata outcome) = host.Metadata outcome
copied (host.SetPermissions mode outcome) = host.SetPermissions mode outcome
copied (host.SetLen size outcome) = host.SetLen size outcome
copied (host.Write bytes outcome) = host.Write bytes.now outcome
copied (host.SyncAll outcome) = host.SyncAll outcome

-- the record with one more call
abbrev pub noted : HostCalls → HostCall (Bor (List ℕ)) → HostCalls
noted calls call = calls ++ copied call ∷ []
