-- A step's refusal is the file's, where all steps before it take it.
use Rattle.std.proofs.Common.{ℕ, sym, subst, List}
use Rattle.std.specs.List.{All}
use Rattle.ssq_accept.specs.declared.refusal.Refusal.{Refusal}
use Rattle.ssq_accept.specs.declared.refusal.Refusal.TheVariants as refusal
use Rattle.ssq_ast.specs.declared.query.Query.{Query}
use Rattle.ssq_bind.proofs.SpanLemmas.{delays_are_spans}
use Rattle.ssq_bind.proofs.TimeBoundLemmas.{time_bound_if_written}
use Rattle.ssq_bind.proofs.WindowLemmas.{windows_if_written}
use Rattle.ssq_bind.specs.Delays.{HasSpan}
use Rattle.ssq_lex.specs.Cut.{cut_of}
use Rattle.ssq_shape.specs.declared.bound.Bound.{Bound}
use Rattle.ssq_shape.specs.Windows.{HasWindows}
use Rattle.ssq_accept.specs.Accepting.{IsRead, IsNoQuery, IsBoundAs, IsUnbound, MayNotRun, Forbids, IsAccepted, IsRefused, IsAllowed, IsNotAllowed}

pub no_query : (file : List ℕ) (why : Refusal) → IsNoQuery file why → IsRefused file why
no_query file (refusal.Parse at cause) is = is
no_query file (refusal.Bind fault) is = absurd is
no_query file (refusal.Mode fault) is = absurd is
no_query file refusal.NoMemory is = is

-- a query that was read from a file and is bound has windows that fit
windows_of : (file : List ℕ) (query : Query) (bound : Bound) → IsRead file query → IsBoundAs query bound → HasWindows bound
windows_of file query bound read names = windows_if_written query bound names.is names.unbroken (cut_of file).tokens read.written.written

pub is_accepted : (file : List ℕ) (query : Query) (bound : Bound) → IsRead file query → IsAllowed query bound → IsAccepted file query bound
is_accepted file query bound read allowed = record {
  read = read;
  names = allowed.names;
  may_run = allowed.may_run;
  delays = subst (λ (b : Bound). All HasSpan b.streams) (sym allowed.names.is) (delays_are_spans (cut_of file).tokens query read.written.written);
  windows = windows_of file query bound read allowed.names;
  time_bound = time_bound_if_written query bound allowed.names.is allowed.names.unbroken (cut_of file).tokens read.written.written;
}

pub query_refused : (file : List ℕ) (query : Query) (why : Refusal) → IsRead file query → IsNotAllowed query why → IsRefused file why
query_refused file query (refusal.Parse at cause) read is = absurd is
query_refused file query (refusal.Bind fault) read is = record { query = query; read = read; breaks = is }
query_refused file query (refusal.Mode fault) read is = record { query = query; read = read; unbroken = is.0; forbids = is.1 }
query_refused file query refusal.NoMemory read is = is

pub names_forbid : (query : Query) (why : Refusal) → IsUnbound query why → IsNotAllowed query why
names_forbid query (refusal.Parse at cause) is = is
names_forbid query (refusal.Bind fault) is = is
names_forbid query (refusal.Mode fault) is = absurd is
names_forbid query refusal.NoMemory is = is

pub mode_forbids : (query : Query) (bound : Bound) (why : Refusal) → IsBoundAs query bound → MayNotRun bound why → IsNotAllowed query why
mode_forbids query bound (refusal.Parse at cause) names is = is
mode_forbids query bound (refusal.Bind fault) names is = absurd is
mode_forbids query bound (refusal.Mode fault) names is = (names.unbroken, subst (λ (b : Bound). Forbids b fault) names.is is)
mode_forbids query bound refusal.NoMemory names is = absurd is
