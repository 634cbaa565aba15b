use Rattle.std.proofs.Common.{◌∙◌, sym, true≢false}
use Rattle.vault_files.proofs.HostLemmas.{called_err, executed_not_regular, executed_regular}
use Rattle.vault_files.proofs.HostLemmas.{executed_unknown}
use Rattle.vault_files.specs.HostSystem.MakesUp.{restricts}
use Rattle.vault_files.specs.System.SystemCall.{ChmodOwnerOnly}
use Rattle.vault_files.proofs.system.host_system.HostFilesSystem.chmod_owner_only.Goals as goal

pub returns-in_err-metadata : goal.returns-in_err-metadata
returns-in_err-metadata g c =
    rw (called_err ChmodOwnerOnly c.from_residual.result c.from_residual.ensures.0)
    (executed_unknown _ _ _ ChmodOwnerOnly restricts _ _ c.in_err-metadata.was c.metadata.ensures)

pub returns-then-not-is_file : goal.returns-then-not-is_file
returns-then-not-is_file g c =
    executed_not_regular _ _ _ ChmodOwnerOnly restricts _ _ c.in_ok-metadata.was
    (λ plain. true≢false (sym (c.is_file.ensures.1 plain) ∙ c.if-not-is_file.true))
    c.metadata.ensures

pub returns : goal.returns
returns g c =
    executed_regular _ _ _ ChmodOwnerOnly restricts _ _ _ _ c.in_ok-metadata.was
    (c.is_file.ensures.0 c.if-not-is_file.false) c.metadata.ensures c.set_permissions.ensures
