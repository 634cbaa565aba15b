use Rattle.std.proofs.Common.{map}
use Rattle.std.specs.String.{string_bytes}
use Rattle.vault_request.proofs.theorems.WordsNameACommand.{parsed_requested}
use Rattle.vault_request.proofs.CommandLineLemmas.{fails_as, parsed_as}
use Rattle.vault_request.proofs.command_line.parse.Goals as goal

pub returns-clause-matches : goal.returns-clause-matches
returns-clause-matches c =
    parsed_as _ _ c.try_get_matches_from.result c.in-Ok.ensures.shape
    c.try_get_matches_from.ensures.matches

pub returns-clause-kinds : goal.returns-clause-kinds
returns-clause-kinds c =
    fails_as _ _ c.try_get_matches_from.result c.in-Ok.ensures.shape
    c.try_get_matches_from.ensures.kinds

pub returns-clause-requested : goal.returns-clause-requested
returns-clause-requested c =
    parsed_requested (map string_bytes c.args.words.now) c.try_get_matches_from.result
    (returns-clause-kinds c) (returns-clause-matches c)
