-- A parse by the command line of the program.
use Rattle.std.proofs.Common.{◌≡◌, List, true, Result, refl}
use Rattle.std.proofs.lemmas.Bool.{and_parts}
use Rattle.std.proofs.lemmas.Result.{IfOk-weaker}
use Rattle.std.specs.Prelude.{IfOk}
use Rattle.clap.specs.Words.{App, FailsBy, HasMatchesOf, Text, fault_of, subcommand_of}
use Rattle.clap.specs.Words.{subcommand_rows_of}
use Rattle.clap.specs.Faults.{is_simple_and_free}
use Rattle.clap.specs.declared.error.Error.{Error}
use Rattle.clap.specs.declared.parser.matches.ArgMatches.{ArgMatches}
use Rattle.clap.proofs.OnLiterals.{clap_on_literals}
use Rattle.vault_request.specs.CommandLine.{vault_app}

vault_app-simple : is_simple_and_free vault_app ≡ true
unfolding clap_on_literals vault_app
vault_app-simple = refl

-- the command and its rows
pub parsed_as : (app : App) (words : List Text) (r : Result ArgMatches Error) → app ≡ vault_app
    → IfOk r (HasMatchesOf app words)
    → IfOk r (λ m. subcommand_rows_of m ≡ subcommand_of vault_app words)
parsed_as app words r e h =
    IfOk-weaker r _ _ (λ m has. (has (and_parts _ _ vault_app-simple).0).1) (rw e at h)

-- the kinds of its errors
pub fails_as : (app : App) (words : List Text) (r : Result ArgMatches Error) → app ≡ vault_app
    → (is_simple_and_free app ≡ true → FailsBy (fault_of app words) r)
    → FailsBy (fault_of vault_app words) r
fails_as app words r e h = (rw e at h) vault_app-simple
