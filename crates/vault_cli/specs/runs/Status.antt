-- The exit statuses.
use Rattle.std.specs.Prelude.{ℕ}
use Rattle.vault_fault.specs.declared.fault.Fault.{Fault}
use Rattle.vault_fault.specs.declared.fault.Fault.TheVariants.{CannotOpen, Memory, Read, Write}
use Rattle.vault_cli.specs.declared.runs.status.Status.{Status}
use Rattle.vault_cli.specs.declared.runs.status.Status.TheVariants.{Success, Refused, ParseFault}
use Rattle.vault_cli.specs.declared.runs.status.Status.TheVariants.{DeviceFailed, OutOfMemory}

-- the exit status as a number
abbrev pub code_of : Status → ℕ
code_of Success = 0
code_of Refused = 1
code_of ParseFault = 2
code_of DeviceFailed = 3
code_of OutOfMemory = 4

-- how a run with this fault ends
abbrev pub status_of : Fault → Status
status_of (Read role) = DeviceFailed
status_of Write = DeviceFailed
status_of (CannotOpen role) = DeviceFailed
status_of Memory = OutOfMemory
status_of fault = Refused
