-- A reduce task is taken back.
use Rattle.std.proofs.Common.{◌≡◌, ◌<◌, ◌+◌, [], ◌∷◌, ℕ, zero, suc, Bool, true, false, true≢false, List, set, Option, Some, None, Result, Ok, Err, inl, inr, refl, sym, ap, ◌∙◌, subst, arith, le-ltb, lt-ltb}
use Rattle.std.specs.Prelude.{All, is_some, not, nat_lt, IfOk, IfErr, IfSome, IsSomeAnd, if◌then◌else◌}
use Rattle.std.specs.List.{list_all}
use Rattle.std.specs.Global.{Vec}
use Rattle.std.proofs.lemmas.Bool.{cases_eq}
use Rattle.std.proofs.lemmas.Option.{same_Some}
use mathlib.Core.Option.{some, some-injective, some-ne-none}
use lib.ListN.{get_elem?}
use Rattle.ssq_time.specs.Time.{IsStampTime}
use Rattle.ssq_value.specs.Kind.{IfTime}
use Rattle.ssq_shape.specs.declared.bound.Bound.{Bound}
use Rattle.ssq_meaning.specs.Meaning.{Values}
use Rattle.ssq_task.specs.declared.partition.Held.{Held}
use Rattle.ssq_task.specs.declared.partition.ReduceTask.{ReduceTask}
use Rattle.ssq_task.specs.declared.partition.ReducedRows.{ReducedRows}
use Rattle.ssq_task.specs.declared.partition.ReduceFault.{ReduceFault}
use Rattle.ssq_task.specs.declared.partition.ReduceFault.TheVariants as reduce
use Rattle.ssq_task.specs.declared.partition.State.{State}
use Rattle.ssq_task.specs.Reducing.{IsBack, IsIndexed, IsReduced, written_in}
use Rattle.ssq_store.specs.Loaded.{count_to}
use Rattle.ssq_core.specs.Course.{Cuts}
use Rattle.ssq_course.specs.Setting.{Setting, course_of}
use Rattle.ssq_course.proofs.Causal.{none_of}
use Rattle.ssq_board.specs.declared.front.Cause.{Cause}
use Rattle.ssq_board.specs.declared.front.Cause.TheVariants as cause
use Rattle.ssq_board.specs.declared.front.Place.{Place}
use Rattle.ssq_board.specs.declared.front.Place.TheVariants as place
use Rattle.ssq_board.specs.Core.{is_here, is_of_epoch, is_stopped, worse, worse_by, fault_at, fault_in, due_of, due_stop, or_stop}
use Rattle.ssq_board.specs.Follows.{IsOwn}
use Rattle.ssq_board.proofs.Leasts.{cause_counts}
use Rattle.ssq_board.proofs.Lists.{put_else}
use Rattle.ssq_terms.specs.Laws.{FaultsAreOfTasks}
use Rattle.ssq_terms.specs.Partitions.{BringsPartition, HoldsPartition, IsNoVersionOf, IsVersionOf, held_in, overflow_of}
use Rattle.ssq_terms.specs.Partitions.{IsReduceOf as IsPartitionTask}
use Rattle.ssq_terms.specs.Rows.{IsShownOf}
use Rattle.ssq_desk.specs.declared.desk.Share.{Share}
use Rattle.ssq_desk.specs.Tasks.{IsReduceTask, IsStateFor, reduce_id}
use Rattle.ssq_desk.specs.Results.{cause_of_failed, fault_of, key_of_outcome, reduced_by}
use Rattle.ssq_desk.specs.Contents.{IsHeldAt, IsHeldOf, IsKeyOf, IsReducedCause, IsShare, IsStopOf, keeping_in}
use Rattle.ssq_desk.proofs.Holding.{put_is}

-- what came of a task
abbrev pub Outcome : (S F : Type 0) → Type 0
Outcome S F = Result (ReducedRows F) (ReduceFault × Option S)

-- ---- what a desk keeps of it

pub back_rests : (f : Option Cause) → place.Back f ≡ place.Rests → ⊥
back_rests f e = cc

back_waits : (f : Option Cause) → place.Back f ≡ place.Waits → ⊥
back_waits f e = cc

-- what a desk keeps of the rows of a reduce task that is back
pub back_share : {S F : Type 0} (owned : Type 0) (written : S → List ℕ) (s : Setting) (cuts : Cuts) (e p : ℕ) (o : Outcome S F) (f : Option Cause) (x : Share S)
    → IfOk o (λ own. owned → IsShownOf s cuts e p own.rows.items) → IfOk o (λ own. All (All (IfTime IsStampTime)) own.rows.items)
    → f ≡ fault_of cause_of_failed o → IfOk o (λ own. x.rows ≡ own.rows) → IsShare owned written s cuts e p (place.Back f) x
back_share owned written s cuts e p (Ok own) f x shown printable is brought = record {
  there = λ r. absurd (back_rests f r);
  empty = λ w. absurd (back_waits f w);
  stage = λ w. absurd (back_waits f w);
  shown = λ b t. subst (λ (v : Vec Values). IsShownOf s cuts e p v.items) (sym brought) (shown t);
  printable = λ b. subst (λ (v : Vec Values). All (All (IfTime IsStampTime)) v.items) (sym brought) printable;
}
back_share owned written s cuts e p (Err w) f x shown printable is brought = record {
  there = λ r. absurd (back_rests f r);
  empty = λ w. absurd (back_waits f w);
  stage = λ w. absurd (back_waits f w);
  shown = λ b. absurd (failed b);
  printable = λ b. absurd (failed b);
}
  where
    failed : place.Back f ≡ place.Back None → ⊥
    failed b = true≢false (ap is_some (sym is) ∙ ap (λ (p : Place). is_some (fault_at p)) b)

-- ---- whether a task has a fault

-- what a task that is back says of the keys of its partition
abbrev pub own_of : {S F : Type 0} (s : Setting) (cuts : Cuts) (e p : ℕ) → Outcome S F → Type 0
own_of s cuts e p (Ok own) = overflow_of s cuts e p ≡ None
own_of s cuts e p (Err (reduce.Overflow key, left)) = overflow_of s cuts e p ≡ Some key
own_of s cuts e p (Err (reduce.DiskFault, left)) = Unit {0}
own_of s cuts e p (Err (reduce.NoMemory, left)) = Unit {0}

pub own_reduced : {S F : Type 0} (s : Setting) (cuts : Cuts) (e p : ℕ) (o : Outcome S F) → FaultsAreOfTasks → own_of s cuts e p o → IsOwn (course_of s cuts) (reduce_id e p) (fault_of cause_of_failed o)
own_reduced s cuts e p (Ok rows) faulty own = (faulty s cuts e).reduces p ∙ ap is_some own
own_reduced s cuts e p (Err (reduce.Overflow key, left)) faulty own = (faulty s cuts e).reduces p ∙ ap is_some own
own_reduced s cuts e p (Err (reduce.DiskFault, left)) faulty own = tt
own_reduced s cuts e p (Err (reduce.NoMemory, left)) faulty own = tt

-- the key of its share
pub own_key : {S F : Type 0} (owned : Type 0) (s : Setting) (cuts : Cuts) (e p : ℕ) (o : Outcome S F) (f : Option Cause) (key : Option Values) → f ≡ fault_of cause_of_failed o → (owned → own_of s cuts e p o) → key ≡ key_of_outcome o → IsKeyOf owned s cuts e p (place.Back f) key
own_key owned s cuts e p (Ok own) f key is of same = subst (λ (f : Option Cause). IsKeyOf owned s cuts e p (place.Back f) key) (sym is) (same, of)
own_key owned s cuts e p (Err (reduce.Overflow own, left)) f key is of same = subst (λ (f : Option Cause). IsKeyOf owned s cuts e p (place.Back f) key) (sym is) (subst (λ (k : Option Values). IsSomeAnd k (λ own. owned → overflow_of s cuts e p ≡ Some own)) (sym same) of)
own_key owned s cuts e p (Err (reduce.DiskFault, left)) f key is of same = subst (λ (f : Option Cause). IsKeyOf owned s cuts e p (place.Back f) key) (sym is) same
own_key owned s cuts e p (Err (reduce.NoMemory, left)) f key is of same = subst (λ (f : Option Cause). IsKeyOf owned s cuts e p (place.Back f) key) (sym is) same

-- by what is its partition's own
pub own_brought : {S F : Type 0} (tells : Type 0) (written : S → List ℕ) (sealed : F → List ℕ) (s : Setting) (cuts : Cuts) (e p : ℕ) (state : Option (State S)) (held : Option Held) (o : Outcome S F)
    → IfOk o (IsVersionOf tells written sealed s cuts e p state held) → IfErr o (IsNoVersionOf s cuts e p held) → own_of s cuts e p o
own_brought tells written sealed s cuts e p state held (Ok own) is not_brought = none_of (overflow_of s cuts e p) is.faultless
own_brought tells written sealed s cuts e p state held (Err (reduce.Overflow key, left)) is not_brought = not_brought.cause
own_brought tells written sealed s cuts e p state held (Err (reduce.DiskFault, left)) is not_brought = tt
own_brought tells written sealed s cuts e p state held (Err (reduce.NoMemory, left)) is not_brought = tt

-- what it met is one of its causes
pub own_cause : {S F : Type 0} (o : Outcome S F) (g : Cause) → fault_of cause_of_failed o ≡ Some g → IsReducedCause g
own_cause (Ok rows) g is = absurd (true≢false (sym (ap is_some is)))
own_cause (Err (reduce.Overflow key, left)) g is = subst IsReducedCause (same_Some cause.KeyOverflow g is) tt
own_cause (Err (reduce.DiskFault, left)) g is = subst IsReducedCause (same_Some cause.DiskFault g is) tt
own_cause (Err (reduce.NoMemory, left)) g is = subst IsReducedCause (same_Some cause.NoMemory g is) tt

-- which no fault of a log is
is_logs : Cause → Bool
is_logs cause.LogFault = true
is_logs _ = false

own_no_log : {S F : Type 0} (o : Outcome S F) → fault_of cause_of_failed o ≡ Some cause.LogFault → ⊥
unfolding is_logs
own_no_log (Ok rows) is = true≢false (sym (ap is_some is))
own_no_log (Err (reduce.Overflow key, left)) is = true≢false (sym (ap is_logs (same_Some cause.KeyOverflow cause.LogFault is)))
own_no_log (Err (reduce.DiskFault, left)) is = true≢false (sym (ap is_logs (same_Some cause.DiskFault cause.LogFault is)))
own_no_log (Err (reduce.NoMemory, left)) is = true≢false (sym (ap is_logs (same_Some cause.NoMemory cause.LogFault is)))

-- ---- what it keeps

-- what comes back of a partition's state with its rows: at the epoch's version
brought_held : {S F : Type 0} (owned tells : Type 0) (written : S → List ℕ) (sealed : F → List ℕ) (s : Setting) (cuts : Cuts) (e : ℕ) (task : ReduceTask S F) (held : Option Held) (brought : ReducedRows F) (state : Option (State S))
    → IsReduceTask owned written s cuts e task → IsStateFor owned written s cuts e task.partition state → IsBack state held → IfSome held (λ held. held.store.version ≡ Some task.epoch)
    → (IfSome state (λ state. IsIndexed task.view.bound.now state.held) → IfSome held (IsIndexed task.view.bound.now))
    → (owned → IsVersionOf tells written sealed s cuts e task.partition task.state held brought) → task.partition < keeping_in s → IsSomeAnd held (IsHeldOf owned s cuts (e + 1) task.partition)
brought_held owned tells written sealed s cuts e task held brought None of given back version indexed is keeps = absurd (omega (arith, given, keeps))
brought_held owned tells written sealed s cuts e task None brought (Some state) of given back version indexed is keeps = absurd back
brought_held owned tells written sealed s cuts e task (Some held) brought (Some state) of given back version indexed is keeps = record {
  partition_is = back ∙ given.1.partition_is;
  version = ap count_to version ∙ ap (λ e. e + 1) of.epoch;
  state = λ t. (is t).kept.store;
  index = subst (λ (query : Bound). IsIndexed query held) of.view.bound (indexed (subst (λ (query : Bound). IsIndexed query state.held) (sym of.view.bound) given.1.index));
}

-- where its task is back
pub back_held : {S F : Type 0} (owned tells : Type 0) (written : S → List ℕ) (sealed : F → List ℕ) (counts : S → ℕ) (s : Setting) (cuts : Cuts) (e : ℕ) (task : ReduceTask S F) (held : Option Held) (o : Outcome S F) (f : Option Cause)
    → IsReduceTask owned written s cuts e task → IsReduced tells written sealed counts task (reduced_by task held o) → (owned → BringsPartition tells written sealed s cuts e task (reduced_by task held o)) → f ≡ fault_of cause_of_failed o
    → task.partition < keeping_in s → IsHeldAt owned s cuts true e task.partition (place.Back f) held
back_held owned tells written sealed counts s cuts e task held (Ok own) f of is brings fault keeps =
    subst (λ (f : Option Cause). IsHeldAt owned s cuts true e task.partition (place.Back f) held) (sym fault)
    (λ here. brought_held owned tells written sealed s cuts e task held own task.state of of.state is.held is.brought.version is.brought.indexed (λ t. (brings t).brought) keeps)
back_held owned tells written sealed counts s cuts e task held (Err failed) f of is brings fault keeps =
    subst (λ (f : Option Cause). IsHeldAt owned s cuts true e task.partition (place.Back f) held) (sym fault) (λ here. absurd (here tt))

-- what a task is given, as its partition holds it
given_held : {S : Type 0} (owned : Type 0) (written : S → List ℕ) (s : Setting) (cuts : Cuts) (e p : ℕ) (state : Option (State S)) → IsStateFor owned written s cuts e p state → owned → HoldsPartition s cuts e p (held_in state)
given_held owned written s cuts e p None given t = record { store = given; indexed = tt }
given_held owned written s cuts e p (Some state) given t = record { store = given.1.state t; indexed = given.1.index }

-- its file aside is empty
pub given_empty : {S : Type 0} (owned : Type 0) (written : S → List ℕ) (s : Setting) (cuts : Cuts) (e p : ℕ) (state : Option (State S)) → IsStateFor owned written s cuts e p state → owned → written_in written state ≡ []
given_empty owned written s cuts e p None given t = refl
given_empty owned written s cuts e p (Some state) given t = given.2 t

-- whether its partition keeps state
pub given_keeps : {S : Type 0} (owned : Type 0) (written : S → List ℕ) (s : Setting) (cuts : Cuts) (e p : ℕ) (state : Option (State S)) → IsStateFor owned written s cuts e p state → nat_lt p (keeping_in s) ≡ is_some state
given_keeps owned written s cuts e p None given = le-ltb p (keeping_in s) given
given_keeps owned written s cuts e p (Some state) given = lt-ltb p (keeping_in s) given.0

pub partition_task : {S F : Type 0} (owned : Type 0) (written : S → List ℕ) (s : Setting) (cuts : Cuts) (e : ℕ) (task : ReduceTask S F) → IsReduceTask owned written s cuts e task → owned → IsPartitionTask s cuts e task
partition_task owned written s cuts e task of t = record {
  query = of.view.bound;
  epoch = of.epoch;
  few = of.few;
  below = of.below;
  watermark = of.watermark t;
  rows = of.rows t;
  held = given_held owned written s cuts e task.partition task.state of.state t;
}

-- ---- for what its phase stops

-- a cause of the outside is the one that counts, or another of the outside is
outside_there : (ps : List Place) (i : ℕ) (g : Cause) → get_elem? ps i ≡ some (place.Back (Some g)) → is_of_epoch g ≡ false → (h : Cause) × (fault_in ps ≡ Some h) × (is_of_epoch h ≡ false)
outside_there [] i g here out = absurd (some-ne-none (place.Back (Some g)) (sym here))
outside_there (p ∷ ps) zero g here out = by (fault_in ps) refl
  where
    mine : fault_at p ≡ Some g
    mine = ap fault_at (some-injective p (place.Back (Some g)) here)

    by : (o : Option Cause) → fault_in ps ≡ o → (h : Cause) × (worse (fault_at p) (fault_in ps) ≡ Some h) × (is_of_epoch h ≡ false)
    by None e = (g, (λ i. worse (mine i) (e i)), out)
    by (Some l) e = (g, (λ i. worse (mine i) (e i)) ∙ ap (λ (b : Bool). Some (worse_by b g l)) out, out)
outside_there (p ∷ ps) (suc i) g here out = by (fault_at p) refl (outside_there ps i g here out)
  where
    by : (o : Option Cause) → fault_at p ≡ o → (h : Cause) × (fault_in ps ≡ Some h) × (is_of_epoch h ≡ false) → (h : Cause) × (worse (fault_at p) (fault_in ps) ≡ Some h) × (is_of_epoch h ≡ false)
    by None e l = (l.0, (λ i. worse (e i) (l.1 i)), l.2)
    by (Some f) e l = by_line (is_of_epoch f) refl
      where
        by_line : (b : Bool) → is_of_epoch f ≡ b → (h : Cause) × (worse (fault_at p) (fault_in ps) ≡ Some h) × (is_of_epoch h ≡ false)
        by_line true is = (l.0, (λ i. worse (e i) (l.1 i)) ∙ ap (λ (b : Bool). Some (worse_by b f l.0)) is ∙ ap (λ (b : Bool). Some (if b then f else l.0)) l.2, l.2)
        by_line false is = (f, (λ i. worse (e i) (l.1 i)) ∙ ap (λ (b : Bool). Some (worse_by b f l.0)) is, is)

-- so its phase has a cause to stop
pub not_calm : (ps : List Place) (i : ℕ) (g : Cause) → get_elem? ps i ≡ some (place.Back (Some g)) → is_of_epoch g ≡ false → due_stop ps ≡ None → ⊥
not_calm ps i g here out calm = (let h = outside_there ps i g here out in by (list_all is_here ps) h.0 h.2 (sym (ap (due_of (list_all is_here ps)) h.1) ∙ calm))
  where
    by : (all : Bool) (h : Cause) → is_of_epoch h ≡ false → due_of all (Some h) ≡ None → ⊥
    by true h out e = true≢false (ap is_some e)
    by false h out e = true≢false (ap is_some (sym (ap (λ (b : Bool). if not b then Some h else None) out) ∙ e))

-- the causes of a reduce task
pub reduced_cases : (P : Cause → Type 0) → P cause.DiskFault → P cause.NoMemory → P cause.KeyOverflow → (f : Cause) → IsReducedCause f → P f
reduced_cases P disk memory key cause.DiskFault is = disk
reduced_cases P disk memory key cause.NoMemory is = memory
reduced_cases P disk memory key cause.KeyOverflow is = key
reduced_cases P disk memory key (cause.BadLine t p o w) is = absurd is
reduced_cases P disk memory key (cause.Overflow t p o) is = absurd is
reduced_cases P disk memory key (cause.LogShort t p l w) is = absurd is
reduced_cases P disk memory key (cause.Damaged w) is = absurd is
reduced_cases P disk memory key cause.LogFault is = absurd is
reduced_cases P disk memory key cause.Full is = absurd is

-- a desk that ran stops for what its reduce tasks met
pub reduce_stops : (reads owned : Type 0) (s : Setting) (cuts : Cuts) (e : ℕ) (reduces : List Place) (g : Cause) (key : Option Values) → due_stop reduces ≡ Some g → ((q : ℕ) (h : Cause) → get_elem? reduces q ≡ some (place.Back (Some h)) → IsReducedCause h)
    → (g ≡ cause.KeyOverflow → IsStopOf reads owned s cuts e key cause.KeyOverflow) → IsStopOf reads owned s cuts e key g
reduce_stops reads owned s cuts e reduces g key is each own =
    let c = cause_counts reduces g is in
    reduced_cases (λ g. (g ≡ cause.KeyOverflow → IsStopOf reads owned s cuts e key cause.KeyOverflow) → IsStopOf reads owned s cuts e key g) (λ own. tt) (λ own. tt) (λ own. own refl) g (each c.place_of g c.here) own

-- any other cause says nothing of keys
pub rekeyed : (reads owned : Type 0) (s : Setting) (cuts : Cuts) (e : ℕ) (key other : Option Values) (g : Cause) → (g ≡ cause.KeyOverflow → ⊥) → IsStopOf reads owned s cuts e key g → IsStopOf reads owned s cuts e other g
rekeyed reads owned s cuts e key other cause.KeyOverflow other_cause is = absurd (other_cause refl)
rekeyed reads owned s cuts e key other cause.DiskFault other_cause is = is
rekeyed reads owned s cuts e key other cause.NoMemory other_cause is = is
rekeyed reads owned s cuts e key other (cause.BadLine t p o w) other_cause is = is
rekeyed reads owned s cuts e key other (cause.Overflow t p o) other_cause is = is
rekeyed reads owned s cuts e key other (cause.LogShort t p l w) other_cause is = is
rekeyed reads owned s cuts e key other (cause.Damaged w) other_cause is = is
rekeyed reads owned s cuts e key other cause.LogFault other_cause is = is
rekeyed reads owned s cuts e key other cause.Full other_cause is = is

-- of its phase no other task met a cause of the outside
pub none_due : (reduces : List Place) (p : ℕ) (f : Option Cause) (g : Cause) → is_of_epoch g ≡ false → due_stop reduces ≡ None → due_stop (set reduces p (place.Back f)) ≡ Some g → f ≡ Some g
none_due reduces p f g out calm is =
    let c = cause_counts (set reduces p (place.Back f)) g is in
    elim (cases_eq c.place_of p) [
      | inl same ↦ ap fault_at (put_is reduces p (place.Back f) (place.Back (Some g)) (subst (λ (k : ℕ). get_elem? (set reduces p (place.Back f)) k ≡ some (place.Back (Some g))) same c.here))
      | inr other ↦ absurd (not_calm reduces c.place_of g (sym (put_else reduces p c.place_of (place.Back f) other) ∙ c.here) out calm)
    ]

-- a Stop that was due, or one before it
pub stops_by : (reads owned : Type 0) (s : Setting) (cuts : Cuts) (e : ℕ) (key : Option Values) (old more : Option Cause) (g : Cause) → or_stop old (if is_stopped old then None else more) ≡ Some g
    → ((h : Cause) → old ≡ Some h → IsStopOf reads owned s cuts e key h) → (old ≡ None → more ≡ Some g → IsStopOf reads owned s cuts e key g) → IsStopOf reads owned s cuts e key g
stops_by reads owned s cuts e key None more g is before own = own refl is
stops_by reads owned s cuts e key (Some f) more g is before own = before g is

-- a log's fault that stopped it before, or one that was due
pub faulty_by : {P : Type 0} (old more : Option Cause) → (old ≡ Some cause.LogFault → P) → (old ≡ None → more ≡ Some cause.LogFault → P) → or_stop old (if is_stopped old then None else more) ≡ Some cause.LogFault → P
faulty_by None more before own is = own refl is
faulty_by (Some f) more before own is = before is
