use Rattle.std.proofs.Common.{◌∙◌, ap, sym}
use Rattle.std.specs.Prelude.{is_some}
use Rattle.vault_request.specs.CommandName.{rekeys}
use Rattle.vault_request.specs.Options.{Options}
use Rattle.vault_request.proofs.RefusalLemmas.{allowed, few_files, new_secrets, salt_texts}
use Rattle.vault_request.proofs.settling.request_of.Goals as goal

pub invariant_of-result : goal.invariant_of-result
invariant_of-result c =
    let given = c.args.options.now in
    let fine = allowed given c.requires.allowed in
    let labelled = c.as_slice-labelled.ensures.value ∙ c.requires.labelled in
    let plain = ap (λ (o : Options). o.password_files) c.options.view_is in
    record {
      count = rw (c.in_ok-secret_files_of.ensures.files, labelled, plain)
          (few_files given fine.count);
      salt_text = rw c.in_ok-copied-3.ensures
          (rw (← c.options.view_is) at (salt_texts given.salt_text given.salt_file fine.salt));
      new_secret =
          ap is_some (c.in_ok-new_file_of.ensures ∙ c.as_ref.ensures.value ∙ c.requires.new_secret)
          ∙ (new_secrets given fine.rekey).0
          ∙ sym (ap (λ (o : Options). rekeys o.command) c.options.view_is);
    }
