-- The one command of the command line. A subcommand is one `App` and one line in `program`.
use Rattle.std.specs.Prelude.{◌≡◌, ℕ, Some, true, false, codes, IfOk}
use Rattle.clap.specs.Words.{App, Rule, Text, app_of, new_app, new_rule, rule_of, with_rule, with_subcommand}
use Rattle.clap.specs.Simple.{on_top}
use Rattle.clap.specs.declared.builder.arg.Arg.{Arg}
use Rattle.clap.specs.declared.builder.command.Command.{Command}
use Rattle.clap.specs.declared.builder.command.Command.TheViews.{out-Command}
use Rattle.clap.specs.declared.builder.value_parser.ValueParser.TheVariants.{Unsigned}
use Rattle.ssq_words.specs.declared.program.Draft.{Draft}

-- the query's file, a required positional
abbrev pub query_rule : Rule
query_rule = record (new_rule (codes "query")) { required = true }

-- an option with a number from 1 on
abbrev pub option_rule : Text → ℕ → Rule
option_rule name most = record (new_rule name) { long = Some name; parser = Some (Unsigned 1 most) }

-- a number that has to stand there
abbrev pub needed_rule : Text → ℕ → ℕ → Rule
needed_rule name least most = record (new_rule name) { required = true; parser = Some (Unsigned least most) }

-- `--partitions`: how many partitions the state has
abbrev pub partitions_rule : Rule
partitions_rule = option_rule (codes "partitions") 64

-- `--max-lines`: the most lines of a part in an epoch
abbrev pub max_lines_rule : Rule
max_lines_rule = option_rule (codes "max-lines") 1099511627776

-- `--rounds`: how often new lines are looked for
abbrev pub rounds_rule : Rule
rounds_rule = option_rule (codes "rounds") 1000000

-- `NUMBER` of `gen`: the number of the first line
abbrev pub number_rule : Rule
number_rule = needed_rule (codes "number") 0 65536

-- `LINES` of `gen`: how many lines
abbrev pub count_rule : Rule
count_rule = needed_rule (codes "lines") 1 10000000

-- `run QUERY [--partitions 1..64] [--max-lines 1..1099511627776] [--rounds 1..1000000]`
unfoldable pub run_app : App
run_app = with_rule (with_rule (with_rule (with_rule (new_app (codes "run")) query_rule) partitions_rule) max_lines_rule) rounds_rule

-- `show QUERY`
unfoldable pub show_app : App
show_app = with_rule (new_app (codes "show")) query_rule

-- `explain QUERY`
unfoldable pub explain_app : App
explain_app = with_rule (new_app (codes "explain")) query_rule

-- `status QUERY`
unfoldable pub status_app : App
status_app = with_rule (new_app (codes "status")) query_rule

-- `gen NUMBER LINES`
unfoldable pub gen_app : App
gen_app = with_rule (with_rule (new_app (codes "gen")) number_rule) count_rule

-- the program itself: it has no help of its own, and needs a subcommand
unfoldable pub top_app : App
top_app = on_top (λ s. record s {
  disable_help_flag = true;
  disable_help_subcommand = true;
  subcommand_required = true;
}) (new_app (codes "ssq"))

-- with the commands that make a table and show it
unfoldable pub tables_app : App
tables_app = with_subcommand (with_subcommand top_app run_app.top) show_app.top

unfoldable pub program : App
program = with_subcommand (with_subcommand (with_subcommand tables_app explain_app.top) status_app.top) gen_app.top

-- an argument with this rule, which is not global
abbrev pub IsRule : Rule → Arg → Type 0
IsRule rule arg = (rule_of arg ≡ rule) × (arg.global ≡ false)

-- a command of this shape, of which no argument is global, unless memory ran out
abbrev pub Makes : App → Draft → Type 0
Makes app draft = IfOk draft.made (λ c. (app_of c ≡ app) × ((out-Command c).has_globals ≡ false))
