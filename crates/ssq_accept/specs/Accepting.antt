-- Which query files are accepted, and why others are refused: a file is a query or not, its query breaks a rule of binding
-- or not, and it may run in its mode or not. The first of these that refuses is told.
use Rattle.std.specs.Prelude.{◌≡◌, ◌⊎◌, ℕ, List, Ok, Err}
use Rattle.std.specs.List.{All}
use Rattle.ssq_accept.specs.declared.refusal.Refusal.{Refusal}
use Rattle.ssq_accept.specs.declared.refusal.Refusal.TheVariants as refusal
use Rattle.ssq_ast.specs.declared.query.Query.{Query}
use Rattle.ssq_bind.specs.Bound.{bound_of}
use Rattle.ssq_bind.specs.Delays.{HasSpan}
use Rattle.ssq_bind.specs.Limits.{HasLimits}
use Rattle.ssq_bind.specs.Sound.{IsSoundBound}
use Rattle.ssq_bind.specs.TimeBounds.{HasTimeBound}
use Rattle.ssq_check.specs.declared.fault.BindFault.{BindFault}
use Rattle.ssq_check.specs.Fault as rule
use Rattle.ssq_check.specs.Fault.{AreNone}
use Rattle.ssq_check.specs.Whole.{QueryFaults}
use Rattle.ssq_modes.specs.declared.fault.ModeFault.{ModeFault}
use Rattle.ssq_modes.specs.Modes as mode
use Rattle.ssq_modes.specs.Modes.{AppliesNone}
use Rattle.ssq_parse.specs.declared.fault.ParseCause.{ParseCause}
use Rattle.ssq_parse.specs.File.{query_of, IsQuery}
use Rattle.ssq_shape.specs.declared.bound.Bound.{Bound}
use Rattle.ssq_shape.specs.Windows.{HasWindows}

-- ---- a file is a query

-- it is read as this query, and so it is written by the grammar
pub record IsRead (file : List ℕ) (query : Query) : Type 0 where
  pub read : query_of file ≡ Ok query
  pub written : IsQuery file query

-- it is read as none: at this place, with this cause
abbrev pub HasFault : List ℕ → ℕ → ParseCause → Type 0
HasFault file at cause = query_of file ≡ Err (record { at = at; cause = cause })

abbrev pub IsNoQuery : List ℕ → Refusal → Type 0
IsNoQuery file (refusal.Parse at cause) = HasFault file at cause
IsNoQuery file (refusal.Bind fault) = ⊥
IsNoQuery file (refusal.Mode fault) = ⊥
IsNoQuery file refusal.NoMemory = Unit {0}

-- ---- a query is bound

-- it breaks no rule of binding, and this is its bound query
pub record IsBoundAs (query : Query) (bound : Bound) : Type 0 where
  pub is : bound ≡ bound_of query
  pub unbroken : AreNone (QueryFaults query)
  pub sound : IsSoundBound bound
  pub limits : HasLimits bound

-- this is the first of the rules that it breaks
abbrev pub Breaks : Query → BindFault → Type 0
Breaks query fault = rule.IsFirst (QueryFaults query) fault

abbrev pub IsUnbound : Query → Refusal → Type 0
IsUnbound query (refusal.Parse at cause) = ⊥
IsUnbound query (refusal.Bind fault) = Breaks query fault
IsUnbound query (refusal.Mode fault) = ⊥
IsUnbound query refusal.NoMemory = Unit {0}

-- ---- a bound query may run in its mode

-- no rule of modes forbids it
abbrev pub MayRun : Bound → Type 0
MayRun bound = AppliesNone bound

-- this is the first of the rules that forbid it
abbrev pub Forbids : Bound → ModeFault → Type 0
Forbids bound fault = mode.IsFirst bound fault

abbrev pub MayNotRun : Bound → Refusal → Type 0
MayNotRun bound (refusal.Parse at cause) = ⊥
MayNotRun bound (refusal.Bind fault) = ⊥
MayNotRun bound (refusal.Mode fault) = Forbids bound fault
MayNotRun bound refusal.NoMemory = ⊥

-- ---- a query is bound, and may run in its mode

-- the query breaks no rule of binding, and no rule of modes forbids what it is bound to
pub record IsAllowed (query : Query) (bound : Bound) : Type 0 where
  pub names : IsBoundAs query bound
  pub may_run : MayRun bound

-- the query breaks a rule of binding; or it breaks none, and a rule of modes forbids it
abbrev pub IsNotAllowed : Query → Refusal → Type 0
IsNotAllowed query (refusal.Parse at cause) = ⊥
IsNotAllowed query (refusal.Bind fault) = Breaks query fault
IsNotAllowed query (refusal.Mode fault) = AreNone (QueryFaults query) × Forbids (bound_of query) fault
IsNotAllowed query refusal.NoMemory = Unit {0}

-- ---- the whole

-- The file is this query, written by the grammar; it breaks no rule of binding, and no rule of modes forbids it. So it keeps nothing, or groups its
-- rows by at most 64 keys and with at most 64 aggregates, or deduplicates them by at most 64 columns, or joins them by at most 64 key equalities and
-- with a bound, if it has one, that lies around the left row's time. It reads one stream or two, whose delays are 1 second to 366 days long, an
-- event column stands only with a delay; there is at most one window, whose size and slide are spans, and whose size is one to 64 slides; and the
-- canonical text is UTF-8 of a length of 64 bits.
pub record IsAccepted (file : List ℕ) (query : Query) (bound : Bound) : Type 0 where
  pub read : IsRead file query
  pub names : IsBoundAs query bound
  pub may_run : MayRun bound
  pub delays : All HasSpan bound.streams
  pub windows : HasWindows bound
  pub time_bound : HasTimeBound bound

-- the query breaks a rule, and this is the first of them
pub record IsBroken (file : List ℕ) (fault : BindFault) : Type 0 where
  pub query : Query
  pub read : IsRead file query
  pub breaks : Breaks query fault

-- the query breaks no rule of binding, and this is the first rule of modes that forbids it
pub record IsForbidden (file : List ℕ) (fault : ModeFault) : Type 0 where
  pub query : Query
  pub read : IsRead file query
  pub unbroken : AreNone (QueryFaults query)
  pub forbids : Forbids (bound_of query) fault

-- the first step that refuses the file, where all steps before it take it; or memory ran out
abbrev pub IsRefused : List ℕ → Refusal → Type 0
IsRefused file (refusal.Parse at cause) = HasFault file at cause
IsRefused file (refusal.Bind fault) = IsBroken file fault
IsRefused file (refusal.Mode fault) = IsForbidden file fault
IsRefused file refusal.NoMemory = Unit {0}

-- ---- a file has one answer

-- a file that is accepted is never refused but where memory ran out
abbrev pub AcceptedAreTaken : Type 0
AcceptedAreTaken = (file : List ℕ) (query : Query) (bound : Bound) (why : Refusal) → IsAccepted file query bound → IsRefused file why → why ≡ refusal.NoMemory

-- two refusals of a file are one, or memory ran out
abbrev pub AreRefusedAlike : Type 0
AreRefusedAlike = (file : List ℕ) (one other : Refusal) → IsRefused file one → IsRefused file other → (one ≡ refusal.NoMemory) ⊎ (other ≡ refusal.NoMemory) ⊎ (one ≡ other)
