-- What is said of a command's query.
use Rattle.std.specs.Prelude.{ℕ, List, take, Option, Some, None}
use Rattle.ssq_outside.specs.Logs.{Held}
use Rattle.ssq_ast.specs.declared.query.Query.{Query}
use Rattle.ssq_shape.specs.declared.bound.Bound.{Bound}
use Rattle.ssq_accept.specs.Accepting.{IsAccepted, IsRefused}
use Rattle.ssq_gen.specs.Made.{query_text}
use Rattle.ssq_words.specs.Asking.{Asked, asks_run, asks_show, asks_explain, asks_status, asks_gen}
use Rattle.ssq_accept.specs.declared.refusal.Refusal.{Refusal}

-- what is read of a query's file: a longer one is no query
abbrev pub read_of : Held → List ℕ → List ℕ
read_of held file = take 65537 (held.text file)

-- the file that a command names; generated input has none
abbrev pub file_of : Asked → Option (List ℕ)
file_of (asks_run file partitions most rounds) = Some file
file_of (asks_show file) = Some file
file_of (asks_explain file) = Some file
file_of (asks_status file) = Some file
file_of (asks_gen number lines) = None

-- what is read of it; without one it is the query of generated input
abbrev pub text_of : Held → Option (List ℕ) → List ℕ
text_of held (Some file) = read_of held file
text_of held None = query_text

-- the text of a command's query
abbrev pub text_for : Held → Asked → List ℕ
text_for held what = text_of held (file_of what)

-- the text is accepted, as this bound query
pub record IsQueryOf (text : List ℕ) (bound : Bound) : Type 0 where
  pub query : Query
  pub accepted : IsAccepted text query bound

-- some text is
abbrev pub IsSomeQuery : Bound → Type 0
IsSomeQuery bound = (text : List ℕ) × IsQueryOf text bound

-- the file of this name is
abbrev pub IsQueryAt : Held → List ℕ → Bound → Type 0
IsQueryAt held file bound = IsQueryOf (read_of held file) bound

-- what a command is about
abbrev pub IsQueryFor : Held → Asked → Bound → Type 0
IsQueryFor held what bound = IsQueryOf (text_for held what) bound

-- its query is refused, and this is why
abbrev pub IsRefusedFor : Held → Asked → Refusal → Type 0
IsRefusedFor held what why = IsRefused (text_for held what) why
