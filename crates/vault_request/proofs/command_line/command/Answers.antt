use Rattle.std.proofs.Common.{◌∙◌, ap, ap₂}
use Rattle.clap.specs.Words.{App, with_subcommand}
use Rattle.vault_request.specs.CommandLine.{vault_app}
use Rattle.vault_request.proofs.command_line.command.Goals as goal

pub returns : goal.returns
unfolding vault_app
returns c =
    let top = λ (a : App). a.top in
    let first = c.in_ok-subcommand.ensures.shape c.in_ok-encrypt.ensures.local
    ∙ ap₂ with_subcommand c.in_ok-top.ensures.shape (ap top c.in_ok-encrypt.ensures.shape) in
    let second = c.in_ok-subcommand-2.ensures.shape c.in_ok-decrypt.ensures.local
    ∙ ap₂ with_subcommand first (ap top c.in_ok-decrypt.ensures.shape) in
    let third = c.in_ok-subcommand-3.ensures.shape c.in_ok-view.ensures.local
    ∙ ap₂ with_subcommand second (ap top c.in_ok-view.ensures.shape) in
    let fourth = c.in_ok-subcommand-4.ensures.shape c.in_ok-rekey.ensures.local
    ∙ ap₂ with_subcommand third (ap top c.in_ok-rekey.ensures.shape) in
    record {
      shape =
          c.in_ok-command.ensures.shape c.in_ok-encrypt_string.ensures.local
          ∙ ap₂ with_subcommand fourth (ap top c.in_ok-encrypt_string.ensures.shape);
      refused = tt;
    }
