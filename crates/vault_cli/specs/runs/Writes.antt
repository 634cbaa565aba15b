-- What happens to a text that is ready, or to the fault in its place.
use Rattle.std.specs.Prelude.{◌≡◌, ◌⊎◌, Result, Ok, Err}
use Rattle.vault_core.specs.Ready.{Ready}
use Rattle.vault_fault.specs.declared.fault.Fault.{Fault}
use Rattle.vault_fault.specs.declared.fault.Fault.TheVariants.{Write}
use Rattle.vault_cli.specs.Call.{SinkCall}
use Rattle.vault_cli.specs.runs.Reports.{Reports, line_of}
use Rattle.vault_cli.specs.runs.OutputEnd.{to_sink}
use Rattle.vault_cli.specs.runs.Status.{status_of}
use Rattle.vault_cli.specs.declared.runs.status.Status.{Status}
use Rattle.vault_cli.specs.declared.runs.status.Status.TheVariants.{DeviceFailed, Success}

module _ {K E : Type 0} (out : SinkCall K) (err : SinkCall E) (result : Status) where
  -- the text was written, or only its first bytes and the output failed; a fault was reported
  abbrev pub Writes : Result Ready Fault → Type 0
  Writes (Ok ready) =
      ((result ≡ Success) × (to_sink out).received ready.output × (err.new ≡ err.old))
      ⊎ ((result ≡ DeviceFailed) × (to_sink out).cut ready.output
      × Reports err (line_of Write))
  Writes (Err fault) =
      (result ≡ status_of fault) × (out.new ≡ out.old) × Reports err (line_of fault)
