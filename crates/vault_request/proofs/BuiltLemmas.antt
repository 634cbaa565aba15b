-- What a command is with more arguments.
use Rattle.std.proofs.Common.{◌∙◌, ap₂, ◌||◌, Result, IfOk}
use Rattle.std.proofs.lemmas.Result.{IfOk-weaker}
use Rattle.clap.specs.Words.{AddsArg, App, Rule, with_rule}
use Rattle.clap.specs.declared.builder.arg.Arg.{Arg}
use Rattle.clap.specs.declared.builder.command.Command.{Command}
use Rattle.vault_request.specs.Built.{IsArg, IsCommand}

pub one-more : {old new : Command} {a : Arg} {app : App} {rule : Rule}
    → IsCommand old app → AddsArg old a new → IsArg a rule → IsCommand new (with_rule app rule)
one-more before adds this = record {
  shape = adds.shape this.local ∙ ap₂ with_rule before.shape this.rule;
  local = adds.globals ∙ ap₂ ◌||◌ before.local this.local;
}

-- what adding the last argument returns
pub last-more : {E : Type 0} {old : Command} {a : Arg} {app : App} {rule : Rule}
    (r : Result Command E) → IsCommand old app → IfOk r (AddsArg old a) → IsArg a rule
    → IfOk r (λ new. IsCommand new (with_rule app rule))
last-more r before added this =
    IfOk-weaker r _ _ (λ _ adds. one-more before adds this) added
