-- What a file is: a query, or the first fault.
use Rattle.std.specs.Prelude.{◌≡◌, ℕ, ◌≤◌, if◌then◌else◌, nat_lt, List, length, Option, Some, None, Result, Ok, Err}
use Rattle.std.specs.Str.{is_utf8, IsUtf8}
use Rattle.std.specs.Str.Lossy.{utf8_valid_len}
use Rattle.ssq_ast.specs.declared.query.Query.{Query}
use Rattle.ssq_ast.specs.Statement.{IsWritten}
use Rattle.ssq_lex.specs.declared.fault.LexCause.{LexCause}
use Rattle.ssq_lex.specs.declared.fault.LexCause.TheVariants as lex
use Rattle.ssq_lex.specs.declared.fault.Refusal.{Refusal as LexRefusal}
use Rattle.ssq_lex.specs.Cut.{Cut, cut_of}
use Rattle.ssq_parse.specs.declared.fault.ParseCause.{ParseCause}
use Rattle.ssq_parse.specs.declared.fault.ParseCause.TheVariants as cause
use Rattle.ssq_parse.specs.declared.fault.ParseFault.{ParseFault}
use Rattle.ssq_parse.specs.declared.fault.ParseFault.TheVariants.{Refused, NoMemory}
use Rattle.ssq_parse.specs.declared.fault.Stop.{Stop}
use Rattle.ssq_parse.specs.Reading.{Made, Makes}
use Rattle.ssq_parse.specs.Queries.{query_at}

-- what is wrong, and at which byte
pub record Fault : Type 0 where
  pub at : ℕ
  pub cause : ParseCause

abbrev pub as_cause : LexCause → ParseCause
as_cause lex.BadChar = cause.BadChar
as_cause lex.BadNumber = cause.BadNumber
as_cause lex.Unclosed = cause.Unclosed

-- Where the tokens end: at the first byte that begins none, or at the file's end, where more is expected.
abbrev pub ended : ℕ → Option LexRefusal → Fault
ended len None = record { at = len; cause = cause.Expected }
ended len (Some refusal) = record { at = refusal.at; cause = as_cause refusal.cause }

abbrev pub placed : Fault → Option ℕ → ParseCause → Fault
placed end None wrong = end
placed end (Some at) wrong = record { at = at; cause = wrong }

-- The tokens in front of a fault are read before it counts: a fault of the grammar stands in front of it.
abbrev pub judged : ℕ → Option LexRefusal → Made Query → Result Query Fault
judged len fault (Err refusal) = Err (placed (ended len fault) refusal.at refusal.cause)
judged len None (Ok query) = Ok query
judged len (Some refusal) (Ok query) = Err (ended len (Some refusal))

abbrev pub judged_cut : ℕ → Cut → Result Query Fault
judged_cut len cut = judged len cut.fault (query_at cut.tokens)

-- The query that a file is, or its first fault: first its length, then its characters, then its tokens and their order.
unfoldable pub query_of : List ℕ → Result Query Fault
query_of file =
    if nat_lt 65536 (length file) then Err (record { at = 65536; cause = cause.TooLong })
    else (if is_utf8 file then judged_cut (length file) (cut_of file)
    else Err (record { at = utf8_valid_len file; cause = cause.NotUtf8 }))

-- what the call answers, unless memory ran out
abbrev pub Answers : Result Query Fault → Result Query ParseFault → Type 0
Answers found (Ok query) = found ≡ Ok query
Answers found (Err (Refused at cause)) = found ≡ Err (record { at = at; cause = cause })
Answers found (Err NoMemory) = Unit {0}

-- the call answers this query, unless memory ran out
abbrev pub Finds : Query → Result Query ParseFault → Type 0
Finds query (Ok found) = found ≡ query
Finds query (Err (Refused at cause)) = ⊥
Finds query (Err NoMemory) = Unit {0}

-- the same of a part of it
abbrev pub fault_of : Fault → ParseFault
fault_of fault = Refused fault.at fault.cause

-- what the code makes of what was read of the tokens in front of a fault
abbrev pub Judges : ℕ → Option LexRefusal → Result Query Stop → Result Query ParseFault → Type 0
Judges len fault found result = (made : Made Query) → Makes made found → Answers (judged len fault made) result

-- The file is this query: it is no longer than a query file may be, and a text that is tokens to its end, which are
-- written as this query by the grammar, with its places.
pub record IsQuery (file : List ℕ) (query : Query) : Type 0 where
  pub short : length file ≤ 65536
  pub text : IsUtf8 file
  pub whole : (cut_of file).fault ≡ None
  pub written : IsWritten (cut_of file).tokens query
