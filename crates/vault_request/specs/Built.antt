-- What the values of the parser library describe.
use Rattle.std.specs.Prelude.{◌≡◌, false}
use Rattle.clap.specs.Words.{App, Rule, app_of, rule_of}
use Rattle.clap.specs.declared.builder.arg.Arg.{Arg}
use Rattle.clap.specs.declared.builder.command.Command.{Command}
use Rattle.clap.specs.declared.builder.command.Command.TheViews.{out-Command}

-- an argument with this rule, which is not global
pub record IsArg (arg : Arg) (described : Rule) : Type 0 where
  pub rule : rule_of arg ≡ described
  pub local : arg.global ≡ false

-- a command that takes these arguments, none of which is global
pub record IsCommand (command : Command) (app : App) : Type 0 where
  pub shape : app_of command ≡ app
  pub local : (out-Command command).has_globals ≡ false
