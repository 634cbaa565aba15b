-- Arguments without a fault name a command.
use Rattle.std.proofs.Common.{◌≡◌, ◌≢◌, List, [], ◌∷◌, Bool, true, false, Option, Some, None}
use Rattle.std.proofs.Common.{Result, Ok, Err, refl, sym, ap, ◌∙◌, inl, inr}
use Rattle.std.proofs.lemmas.Bool.{cases_Bool, false≢true}
use Rattle.std.specs.List.{AllByRecursion, find}
use Rattle.std.specs.Option.{option_map}
use Rattle.std.specs.Prelude.{is_some, IfOk}
use Rattle.clap.specs.Faults.{built_fault, check_fault, defaults_fault, entered_fault, settle_fault}
use Rattle.clap.specs.Faults.{walk_fault}
use Rattle.clap.specs.Kinds.{Kinds, check_kinds, or_else}
use Rattle.clap.specs.Simple.{App, Shape, argument_words, built, entered, label_of, names_of}
use Rattle.clap.specs.Simple.{rows_at}
use Rattle.clap.specs.Walk.{Row, Text, answers_to, finished, nothing_held, settled, stop_after}
use Rattle.clap.specs.Walk.{walk, walk_from}
use Rattle.clap.specs.Words.{FailsBy, fault_of, subcommand_of, subcommand_rows_of}
use Rattle.clap.specs.declared.error.Error.{Error}
use Rattle.clap.specs.declared.parser.matches.ArgMatches.{ArgMatches}
use Rattle.clap.proofs.OnLiterals.{clap_on_literals}
use Rattle.vault_request.specs.CommandLine.{vault_app}
use Rattle.vault_request.specs.CommandName.{command_of}
use Rattle.vault_request.specs.Laws.{WordsNameACommand}
use Rattle.vault_request.specs.Settled.{requested, requested_by, command_in}
use Rattle.vault_request.proofs.SettledLemmas.{is_some-map}

-- ---- a level without a fault has its subcommand, where one is required

later : (first last : Kinds) → or_else first last ≡ [] → last ≡ []
later [] last h = h
later (kind ∷ kinds) last h = absurd cc

missing : (help required argument : Bool) → required ≡ true
    → check_kinds help required argument ≢ []
missing true required argument is e = cc
missing false true argument is e = cc
missing false false argument is e = false≢true is

check-required : (s : Shape) (rows : List Row) (has : Bool) → s.subcommand_required ≡ true
    → check_fault s rows has ≡ [] → has ≡ true
check-required s rows true required e = refl
check-required s rows false required e = absurd (missing _ _ _ required e)

has-command : (a : App) (words : List Text) → a.top.subcommand_required ≡ true
    → built_fault a nothing_held words ≡ []
    → is_some (entered a (stop_after a.top.rules (names_of a) words)) ≡ true
has-command a words required e =
    let names = names_of a in
    let rules = a.top.rules in
    let end = walk rules names nothing_held words in
    check-required a.top (finished rules end.held) _ required
    (later (defaults_fault (settled rules end.held).rows rules) _
    (later (settle_fault rules a.top.args_override_self end.held) _
    (later (entered_fault a end.stopped) _
    (later (walk_fault a.top names (walk_from nothing_held) words) _ e))))

-- ---- each subcommand is a command

abbrev NamesCommand : Shape → Type 0
NamesCommand s = is_some (command_of s.name) ≡ true

named-requested : (s : Shape) (rows : List Row) → NamesCommand s
    → is_some (requested (Some (s.name, rows))) ≡ true
named-requested s rows e =
    sym (is_some-map _ (command_in (Some (s.name, rows)))) ∙ sym (is_some-map _ (command_of s.name))
    ∙ e

find-requested : (test : Shape → Bool) (subs : List Shape) (words : List Text)
    → AllByRecursion NamesCommand subs
    → is_some (option_map (λ s. rows_at s words) (find test subs)) ≡ true
    → is_some (requested (option_map (λ s. rows_at s words) (find test subs))) ≡ true
find-requested test [] words all = λ some. absurd (false≢true some)
find-requested test (s ∷ subs) words (named, others) =
    elim (cases_Bool (test s)) [
      | inl here ↦ rw here (λ _. named-requested s (rows_at s words).1 named)
      | inr other ↦ rw other (find-requested test subs words others)
    ]

entered-requested : (a : App) (stop : Option (Text × List Text))
    → AllByRecursion NamesCommand a.subs
    → is_some (entered a stop) ≡ true → is_some (requested (entered a stop)) ≡ true
entered-requested a None all some = absurd (false≢true some)
entered-requested a (Some (word, words)) all some =
    find-requested (λ s. answers_to word (label_of s)) a.subs words all some

-- ---- of the program's command line

command-required : (built vault_app).top.subcommand_required ≡ true
unfolding clap_on_literals vault_app
command-required = refl

commands-named : AllByRecursion NamesCommand (built vault_app).subs
unfolding clap_on_literals vault_app
commands-named = (refl, (refl, (refl, (refl, (refl, tt)))))

words-requested : (words : List Text) → fault_of vault_app words ≡ [] → is_some (requested_by words)
    ≡ true
words-requested words e =
    let app = built vault_app in
    let given = argument_words vault_app words in
    entered-requested app (stop_after app.top.rules (names_of app) given) commands-named
    (has-command app given command-required e)

pub words_name_a_command : WordsNameACommand
words_name_a_command words e none = false≢true (sym (ap is_some none) ∙ words-requested words e)

-- what parses asks for something
pub parsed_requested : (words : List Text) (r : Result ArgMatches Error)
    → FailsBy (fault_of vault_app words) r
    → IfOk r (λ m. subcommand_rows_of m ≡ subcommand_of vault_app words)
    → IfOk r (λ m. is_some (requested (subcommand_rows_of m)) ≡ true)
parsed_requested words (Ok m) kinds matches =
    ap (λ parse. is_some (requested parse)) matches ∙ words-requested words kinds
parsed_requested words (Err error) kinds matches = tt
