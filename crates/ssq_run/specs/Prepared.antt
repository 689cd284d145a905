-- What is to be done, by what the words ask for.
use Rattle.std.specs.Prelude.{◌≡◌, ◌≤◌, ℕ, ⊤, List, Some, None}
use Rattle.std.specs.Option.{ForSome}
use Rattle.ssq_outside.specs.Logs.{Held}
use Rattle.ssq_board.specs.Rounds.{HasCap}
use Rattle.ssq_terms.specs.Setting.{CanRun}
use Rattle.ssq_words.specs.Asking.{Asked, asks_run, asks_show, asks_explain, asks_status, asks_gen, asked}
use Rattle.ssq_run.specs.declared.prepare.Look.{Look}
use Rattle.ssq_run.specs.declared.prepare.Look.TheVariants.{Table, Query, Checkpoint, Generated}
use Rattle.ssq_run.specs.declared.prepare.Todo.{Todo}
use Rattle.ssq_run.specs.declared.prepare.Todo.TheVariants as todo
use Rattle.ssq_run.specs.declared.stop.Stop.{Stop}
use Rattle.ssq_run.specs.declared.stop.Stop.TheVariants.{Usage, NoMemory}
use Rattle.ssq_run.specs.Queries.{IsQueryAt, IsQueryFor, IsSomeQuery}
use Rattle.ssq_run.specs.Stopping.{IsUnread}

-- this is what a command asks to be told of its query
abbrev pub IsLook : Look → Asked → Type 0
IsLook Table what = (file : List ℕ) × (what ≡ asks_show file)
IsLook Query what = (file : List ℕ) × (what ≡ asks_explain file)
IsLook Checkpoint what = (file : List ℕ) × (what ≡ asks_status file)
IsLook (Generated number lines) what = what ≡ asks_gen number lines

-- it can be told: generated lines are of numbers that the program takes
abbrev pub CanLook : Look → Type 0
CanLook (Generated number lines) = (number ≤ 65536) × ((1 ≤ lines) × (lines ≤ 10000000))
CanLook _ = ⊤

-- what is to be done is what the words ask for, with this query
abbrev pub IsTodo : Held → List (List ℕ) → Todo → Type 0
IsTodo held words (todo.Run bound ask) = (file : List ℕ) × (asked words ≡ Some (asks_run file ask.partitions ask.cap ask.rounds)) × IsQueryAt held file bound
IsTodo held words (todo.Look bound look) = (what : Asked) × (asked words ≡ Some what) × IsLook look what × IsQueryFor held what bound

-- and can be done
abbrev pub CanDo : Todo → Type 0
CanDo (todo.Run bound ask) = CanRun bound × ForSome ask.partitions (λ count. (1 ≤ count) × (count ≤ 64)) × HasCap ask.cap × (1 ≤ ask.rounds)
CanDo (todo.Look bound look) = CanRun bound × IsSomeQuery bound × CanLook look

-- why nothing is to be done: the words are no command, their query was not had, or memory ran out
abbrev pub IsUnready : Held → List (List ℕ) → Stop → Type 0
IsUnready held words Usage = asked words ≡ None
IsUnready held words NoMemory = ⊤
IsUnready held words stop = (what : Asked) × (asked words ≡ Some what) × IsUnread held what stop
