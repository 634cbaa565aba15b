use Rattle.std.proofs.Common.{◌∙◌, sym, rules}
use Rattle.std.specs.contracts.io.ErrorKind.{the_type}
use Rattle.std.specs.declared.io.ErrorKind.TheVariants.{InvalidInput}
use denote.Enum.Bare.{same_false, same_true}
use Rattle.vault_files.proofs.HostLemmas.{executed_failed_sync, executed_no_sync, executed_sync}
use Rattle.vault_files.proofs.system.host_system.HostFilesSystem.sync.Goals as goal

pub returns-in-Err : goal.returns-in-Err
returns-in-Err g c =
    executed_no_sync _ _ _ c.sync_all.ensures _ c.in-Err.is
    (sym c.kind.ensures
    ∙ same_true the_type (search rules) c.kind.result InvalidInput
    (sym c.eq.ensures ∙ c.if-eq.true))

pub returns-in-Ok : goal.returns-in-Ok
returns-in-Ok g c = executed_sync _ _ _ c.sync_all.ensures _ c.in-Ok.is

pub returns-in-Err-2 : goal.returns-in-Err-2
returns-in-Err-2 g c =
    executed_failed_sync _ _ _ c.sync_all.ensures _ c.in-Err.is
    (λ invalid. same_false the_type c.kind.result InvalidInput
    (sym c.eq.ensures ∙ c.if-eq.false) (c.kind.ensures ∙ invalid))
