-- What the words ask for, by clap's reading of the program's one command.
use Rattle.std.specs.Prelude.{◌≡◌, ◌≤◌, ℕ, ⊤, List, Option, None, codes, if◌then◌else◌, option_map, option_and_then, unwrap_or}
use Rattle.std.specs.Option.{ForSome}
use Rattle.std.specs.Str.{bytes_eq}
use Rattle.std.specs.Str.Parse.{digits_value, without_leading_plus}
use Rattle.clap.specs.Walk.{is_empty}
use Rattle.clap.specs.Words.{Row, Text, fault_of, first_of, subcommand_of}
use Rattle.ssq_words.specs.Program.{program}
use Rattle.ssq_words.specs.declared.Command.{Command}
use Rattle.ssq_words.specs.declared.error.AskError.{AskError}
use Rattle.ssq_words.specs.declared.error.AskError.TheVariants.{Usage, NoMemory}
use Rattle.ssq_words.specs.declared.Command.TheVariants.{Run, Show, Explain, Status, Gen}

-- a command: the query's file, for a run the number of partitions, if it is asked for, the most lines of an epoch, if there is a
-- cap, and the number of rounds; for generated input the number of its first line, and how many lines it has
pub data Asked : Type 0 where
  asks_run : Text → Option ℕ → Option ℕ → ℕ → Asked
  asks_show : Text → Asked
  asks_explain : Text → Asked
  asks_status : Text → Asked
  asks_gen : ℕ → ℕ → Asked

-- the command that a value of the program's type holds
abbrev pub asked_of : Command → Asked
asked_of (Run query partitions most_lines rounds) = asks_run query.now partitions most_lines rounds
asked_of (Show query) = asks_show query.now
asked_of (Explain query) = asks_explain query.now
asked_of (Status query) = asks_status query.now
asked_of (Gen number lines) = asks_gen number lines

-- the number that digits spell; a first `+` and leading zeros say nothing
abbrev pub number_of : Text → ℕ
number_of text = digits_value 10 (without_leading_plus text)

-- the number that an option was given
abbrev pub number_given : Text → List Row → Option ℕ
number_given id rows = option_map number_of (first_of id rows)

-- a run takes one round where nothing else is said
unfoldable pub run_asked : List Row → Option Asked
run_asked rows = option_map
    (λ query. asks_run query (number_given (codes "partitions") rows) (number_given (codes "max-lines") rows)
    (unwrap_or (number_given (codes "rounds") rows) 1))
    (first_of (codes "query") rows)

unfoldable pub show_asked : List Row → Option Asked
show_asked rows = option_map asks_show (first_of (codes "query") rows)

unfoldable pub explain_asked : List Row → Option Asked
explain_asked rows = option_map asks_explain (first_of (codes "query") rows)

unfoldable pub status_asked : List Row → Option Asked
status_asked rows = option_map asks_status (first_of (codes "query") rows)

unfoldable pub gen_asked : List Row → Option Asked
gen_asked rows =
    option_and_then (λ number. option_map (asks_gen number) (number_given (codes "lines") rows)) (number_given (codes "number") rows)

-- what a subcommand asks for with these matches
unfoldable pub subcommand_asked : Text → List Row → Option Asked
subcommand_asked name rows =
    if bytes_eq name (codes "run") then run_asked rows
    else (if bytes_eq name (codes "show") then show_asked rows
    else (if bytes_eq name (codes "explain") then explain_asked rows
    else (if bytes_eq name (codes "status") then status_asked rows
    else (if bytes_eq name (codes "gen") then gen_asked rows else None))))

-- The words are taken exactly where clap finds no fault in them; then its matches say what they ask for.
unfoldable pub asked : List Text → Option Asked
asked words =
    if is_empty (fault_of program words) then option_and_then (λ p. subcommand_asked p.0 p.1) (subcommand_of program words)
    else None

-- the numbers of a command are in the ranges that the program takes
abbrev pub IsInRange : Command → Type 0
IsInRange (Run query partitions most_lines rounds) =
    ForSome partitions (λ count. (1 ≤ count) × (count ≤ 64)) × (ForSome most_lines (λ most. (1 ≤ most) × (most ≤ 1099511627776)) × ((1 ≤ rounds) × (rounds ≤ 1000000)))
IsInRange (Show query) = ⊤
IsInRange (Explain query) = ⊤
IsInRange (Status query) = ⊤
IsInRange (Gen number lines) = (number ≤ 65536) × ((1 ≤ lines) × (lines ≤ 10000000))

-- why words are refused: they are no command; memory may run out at any time
abbrev pub IsCause : List Text → AskError → Type 0
IsCause words Usage = asked words ≡ None
IsCause words NoMemory = ⊤
