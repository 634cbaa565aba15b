use Rattle.std.proofs.Common.{◌∙◌, codes, refl}
use Rattle.clap.specs.Words.{found_of}
use Rattle.clap.proofs.WalkLemmas.{raw_values-rows}
use Rattle.vault_request.proofs.SettledLemmas.{values_or_none}
use Rattle.vault_request.proofs.settling.settle.Goals as goal

pub returns : goal.returns
returns c =
    let found = found_of c.unwrap-command.result.1.now in
    let ids = values_or_none c.get_strs.result _ _ _ refl c.unwrap_or-ids.ensures
    (c.get_strs.ensures ∙ raw_values-rows found (codes "vault-id")) in
    let paths = values_or_none c.get_strs-2.result _ _ _ refl c.unwrap_or-paths.ensures
    (c.get_strs-2.ensures ∙ raw_values-rows found (codes "vault-password-file")) in
    let given = rw (ids, paths) at c.of.ensures in
    rw (← (rw c.unwrap-command.ensures at c.command_in.ensures))
    (rw given at c.settled_by.ensures)
