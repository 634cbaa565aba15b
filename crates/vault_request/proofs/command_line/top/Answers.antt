use Rattle.std.proofs.Common.{ap, true}
use Rattle.std.proofs.lemmas.Result.{IfOk-weaker}
use Rattle.clap.specs.Simple.{Shape, on_top}
use Rattle.vault_request.proofs.command_line.top.Goals as goal

pub returns : goal.returns
returns c =
    let fields = rw (
      c.subcommand_required.ensures,
      c.version.ensures,
      c.after_help.ensures,
      c.about.ensures,
    ) at c.disable_help_subcommand-command.ensures in
    IfOk-weaker c.bin_name.result _ _ (λ _ named. record {
      shape = rw (named.0, fields) (ap (on_top (λ (s : Shape). record s {
        has_version = true;
        subcommand_required = true;
        disable_help_subcommand = true;
      })) c.new.ensures.app);
      local = rw (named.0, fields) c.new.ensures.local;
    }) c.bin_name.ensures
