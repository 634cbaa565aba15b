use Rattle.std.proofs.Common.{sym}
use Rattle.vault_text.proofs.LabelLemmas.{no_text_is_no_label}
use Rattle.vault_text.proofs.label.Label.from_bytes_or_default.Goals as goal

pub returns-in-Err-clause-allowed : goal.returns-in-Err-clause-allowed
returns-in-Err-clause-allowed c =
    sym (no_text_is_no_label c.args.bytes.now c.in-Err.ensures.cases.0)
