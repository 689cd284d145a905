-- Snapshots that are handed out and come back, and files that are removed: the machine's events of them, and that the desk still shows the
-- machine's.
use Rattle.std.proofs.Common.{◌≡◌, ◌⊎◌, ◌<◌, ◌≤◌, ◌+◌, ◌++◌, ◌==◌, ◌&&◌, ◌||◌, not, nat_lt, ℕ, Bool, true, false, true≢false, List, [], ◌∷◌, Option, Some, None, if◌then◌else◌, sym, refl, ap, ◌∙◌, subst, inl, inr, arith, ltb-true}
use Rattle.std.proofs.lemmas.Bool.Decides.{nat_tests}
use Rattle.std.proofs.lemmas.Bool.{or_left, or_right, and_left, and_parts}
use mathlib.Core.Bool.{and-false}
use borrow.Author.Tests.{not-true}
use mathlib.Core.Option.{some}
use Rattle.ssq_outside.specs.declared.name.Name.{Name}
use Rattle.ssq_outside.specs.declared.name.Name.TheVariants as name
use Rattle.ssq_outside.specs.declared.gate.TaskId.{TaskId}
use Rattle.ssq_outside.specs.declared.gate.Kind.{Kind}
use Rattle.ssq_outside.specs.declared.gate.Kind.TheVariants as kind
use Rattle.ssq_outside.specs.Files.{same_name}
use Rattle.ssq_outside.specs.History.{History, had_now}
use Rattle.ssq_outside.proofs.Names.{same_name-true}
use Rattle.ssq_upkeep.specs.Upkeep.{IsDueAmong, MayGo, is_among, is_sure, Goes}
use Rattle.ssq_upkeep.proofs.Among.{among_both}
use Rattle.ssq_core.specs.declared.event.Event.TheVariants as event
use Rattle.ssq_core.specs.Course.{Cuts, Job}
use Rattle.ssq_core.specs.Sound.{is_state}
use Rattle.ssq_core.specs.Machine.{Desk, placed, with_file, without_file, same_kind, same_task, upkeep, Change, nothing, publishes, removes, Allows, Leaves}
use Rattle.ssq_core.specs.Machine as machine
use Rattle.ssq_core.proofs.Tasks.{same_task-true}
use Rattle.ssq_board.specs.declared.front.Cause.{Cause}
use Rattle.ssq_board.specs.declared.front.Cause.TheVariants as cause
use Rattle.ssq_board.specs.declared.front.Place.{Place}
use Rattle.ssq_board.specs.declared.front.Entry.TheVariants as entry
use Rattle.ssq_board.specs.Core.{Scope, Core, at, with_front, stopped_front, or_stop, is_stopped, stops, stops_by, makes, May, after}
use Rattle.ssq_board.specs.Shown.{IsSound}
use Rattle.ssq_board.specs.Shelf.{Shelf, there_in, asked_in, without, unclaimed, untidy, with_name, snapshot_on, last_of, acknowledged_in, MayKeep, shelf_by}
use Rattle.ssq_board.specs.Follows.{Terms, Goes as Done, Moves, makes_by, ShowsAt, is_snapshot, Shows, IsKept, Shelves, ShowsShelf, life_of, shown}
use Rattle.ssq_board.proofs.Sounds.{some_no, never as or_some}
use Rattle.ssq_board.proofs.Placing.{placed_at, placed_twice, same_at, files_shown, shows_else, stopped_shows}
use Rattle.ssq_board.proofs.Planning.{runs_on, goes_on}
use Rattle.ssq_board.proofs.Leading.{elapses_same, owes_none, not_over, went, tried, report_stops, Follows, out_failed}
use Rattle.ssq_board.proofs.Keeping.{shelves_stopped, no_upkeep, acknowledged_few, added_names, up_to_is}

pub out_waits : machine.out ≡ machine.waits → ⊥
out_waits e = cc

back_failed : (b : Bool) (bytes : Option (List ℕ)) → machine.back b bytes ≡ machine.failed → ⊥
back_failed b bytes e = cc

upkeep_reduce : {A : Type 0} → kind.Upkeep ≡ kind.Reduce → A
upkeep_reduce e = absurd (cc)

other_kind : (k : Kind) → (k ≡ kind.Upkeep → ⊥) → same_kind k kind.Upkeep ≡ false
other_kind kind.Map other = refl
other_kind kind.Reduce other = refl
other_kind kind.Out other = refl
other_kind kind.Upkeep other = absurd (other refl)

other_task : (t : TaskId) (p v : ℕ) → (t.kind ≡ kind.Upkeep → ⊥) → same_task t (upkeep p v) ≡ false
other_task t p v other = and_left (same_kind t.kind kind.Upkeep) (t.epoch == v && t.number == p) (other_kind t.kind other)

-- tasks of snapshots are the same as their names are
turned : (p v i w : ℕ) → (w == v && i == p) ≡ (p == i && v == w)
turned p v i w = grind (arith, nat_tests)

without_upkeep : (c : Core) (d : Desk) (t : TaskId) (p v : ℕ) (there : machine.Place) (q : Place) → at c t ≡ some q → (placed (upkeep p v) there d).tasks t ≡ d.tasks t
without_upkeep c d t p v there q here = ap (λ (b : Bool). if b then there else d.tasks t) (other_task t p v (no_upkeep c t q here))

-- what is there of other kinds once a snapshot is
snap_names : (d : Desk) (p v : ℕ) (q : Name) → is_snapshot q ≡ false → (with_file (name.Snapshot p v) d).there q ≡ d.there q
snap_names d p v name.Meta h = refl
snap_names d p v (name.Plan e) h = refl
snap_names d p v (name.Commit e) h = refl
snap_names d p v (name.Out e) h = refl
snap_names d p v (name.Delta i w) h = refl
snap_names d p v (name.Snapshot i w) h = absurd (true≢false h)

none_some : {A : Type 0} (f : Cause) → Some f ≡ None → A
none_some f e = absurd (some_no f e)

-- the files that entries of an epoch need are as they were
record AreNeeded (d : Desk) (epoch : ℕ) (there sure : Name → Bool) : Type 0 where
  plan : (e : ℕ) → there (name.Plan e) ≡ d.there (name.Plan e)
  plan_sure : (e : ℕ) → sure (name.Plan e) ≡ d.sure (name.Plan e)
  commit : (e : ℕ) → there (name.Commit e) ≡ d.there (name.Commit e)
  out : (e : ℕ) → there (name.Out e) ≡ d.there (name.Out e)
  delta : (i : ℕ) → there (name.Delta i epoch) ≡ d.there (name.Delta i epoch)

module _ (job : Job) (r : Scope) (next : Cuts → ℕ → Bool) (terms : Terms job r next) where
  -- a snapshot's task is elsewhere: it is none of a later epoch
  kept_shows : (c : Core) (d : Desk) (p v : ℕ) (there : machine.Place) (o : Option Cause) → v < c.front.planned → (v ≡ c.front.committed → c.front.fresh ≡ true)
      → (o ≡ None → (c.front.stop ≡ None) × (there ≡ machine.failed → ⊥)) → Shows job r next terms c d → Shows job r next terms (with_front c (stopped_front c.front o)) (placed (upkeep p v) there d)
  kept_shows c d p v there o early fresh whole s = shows_else job r next terms c d (with_front c (stopped_front c.front o)) (placed (upkeep p v) there d) s (files_shown job r next terms c d s) (record {
    written = s.written;
    tasks = λ opened t q epoch found.
        let here = same_at t.kind c (stopped_front c.front o) t.number ∙ found in
        subst (λ (x : machine.Place). ShowsAt (job.course d.cuts) t x q) (sym (without_upkeep c d t p v there q here)) (s.tasks opened t q epoch here);
    deltas = λ opened run. s.deltas opened (whole run).0;
    reduced = s.reduced;
    mapped = s.mapped;
    claimed = λ t epoch. claimed_at t epoch (same_task t (upkeep p v)) refl;
    later = λ t le. later_at t le (same_task t (upkeep p v)) refl;
    whole = λ run t. whole_at (whole run) t (same_task t (upkeep p v)) refl;
  })
    where
      claimed_at : (t : TaskId) → t.epoch ≡ c.front.committed → (b : Bool) → same_task t (upkeep p v) ≡ b → ((if same_task t (upkeep p v) then there else d.tasks t) ≡ machine.waits) ⊎ (c.front.fresh ≡ true)
      claimed_at t epoch true same = inr (fresh (sym (ap (λ (x : TaskId). x.epoch) (same_task-true t (upkeep p v) same)) ∙ epoch))
      claimed_at t epoch false other = elim (s.claimed t epoch) [
        | inl waits ↦ inl (ap (λ (b : Bool). if b then there else d.tasks t) other ∙ waits)
        | inr is ↦ inr is
      ]

      later_at : (t : TaskId) → c.front.planned ≤ t.epoch → (b : Bool) → same_task t (upkeep p v) ≡ b → (if same_task t (upkeep p v) then there else d.tasks t) ≡ machine.waits
      later_at t le true same = absurd (let e = ap (λ (x : TaskId). x.epoch) (same_task-true t (upkeep p v) same) in omega (arith, le, e, early))
      later_at t le false other = ap (λ (b : Bool). if b then there else d.tasks t) other ∙ s.later t le

      whole_at : (c.front.stop ≡ None) × (there ≡ machine.failed → ⊥) → (t : TaskId) (b : Bool) → same_task t (upkeep p v) ≡ b → (if same_task t (upkeep p v) then there else d.tasks t) ≡ machine.failed → ⊥
      whole_at w t true same e = w.1 (sym (ap (λ (b : Bool). if b then there else d.tasks t) same) ∙ e)
      whole_at w t false other e = s.whole w.0 t (sym (ap (λ (b : Bool). if b then there else d.tasks t) other) ∙ e)

  -- files come and go that no entry of the epoch needs
  files_shows : (c : Core) (d : Desk) (there sure : Name → Bool) → AreNeeded d c.front.committed there sure → (c.front.settled ≡ true → (q : Name) → is_snapshot q ≡ false → there q ≡ true → sure q ≡ true)
      → Shows job r next terms c d → Shows job r next terms c (record { cuts = d.cuts; planned = d.planned; committed = d.committed; there = there; sure = sure; tasks = d.tasks; stores = d.stores })
  files_shows c d there sure needed settled s = shows_else job r next terms c d c (record { cuts = d.cuts; planned = d.planned; committed = d.committed; there = there; sure = sure; tasks = d.tasks; stores = d.stores }) s (record {
    settled = settled;
    plan_there = λ e less. needed.plan e ∙ s.plan_there e less;
    plan_settled = λ opened fresh. needed.plan_sure c.front.committed ∙ s.plan_settled opened fresh;
    commits = λ e less. needed.commit e ∙ s.commits e less;
  }) (record {
    written = λ opened is. (needed.out c.front.committed ∙ (s.written opened is).0, (s.written opened is).1);
    tasks = s.tasks;
    deltas = λ opened run i keeps here. needed.delta i ∙ s.deltas opened run i keeps here;
    reduced = λ opened. elim (s.reduced opened) [ inl waits ↦ inl waits | inr all ↦ inr (λ i keeps. needed.delta i ∙ all i keeps) ];
    mapped = s.mapped;
    claimed = s.claimed;
    later = s.later;
    whole = s.whole;
  })

  -- the file of a snapshot is there
  snapshot_shows : (c : Core) (d : Desk) (p v : ℕ) → Shows job r next terms c d → Shows job r next terms c (with_file (name.Snapshot p v) d)
  snapshot_shows c d p v s = files_shows c d (with_file (name.Snapshot p v) d).there d.sure (record { plan = λ e. refl; plan_sure = λ e. refl; commit = λ e. refl; out = λ e. refl; delta = λ i. refl })
      (λ h q other here. s.settled h q other (sym (snap_names d p v q other) ∙ here)) s

  -- a snapshot that is with a worker is of an epoch that is planned
  early_of : (c : Core) (d : Desk) (p v : ℕ) → Shows job r next terms c d → d.tasks (upkeep p v) ≡ machine.out → v < c.front.planned
  early_of c d p v s out = by (nat_lt v c.front.planned) refl
    where
      by : (b : Bool) → nat_lt v c.front.planned ≡ b → v < c.front.planned
      by true h = ltb-true v c.front.planned h
      by false h = absurd (out_waits (sym out ∙ s.later (upkeep p v) (grind (arith, nat_tests))))

  fresh_of : (c : Core) (d : Desk) (p v : ℕ) → Shows job r next terms c d → d.tasks (upkeep p v) ≡ machine.out → v ≡ c.front.committed → c.front.fresh ≡ true
  fresh_of c d p v s out same = elim (s.claimed (upkeep p v) same) [ inl waits ↦ absurd (out_waits (sym out ∙ waits)) | inr fresh ↦ fresh ]

-- ---- what is being made

module _ (p v : ℕ) (names : List Name) where
  more_claimed : (i w : ℕ) → is_among names (name.Snapshot i w) ≡ true → is_among (names ++ name.Snapshot p v ∷ []) (name.Snapshot i w) ≡ true
  more_claimed i w is = among_both names (name.Snapshot p v ∷ []) (name.Snapshot i w) ∙ or_left (is_among names (name.Snapshot i w)) (is_among (name.Snapshot p v ∷ []) (name.Snapshot i w)) is

  now_claimed : (i w : ℕ) → same_name (name.Snapshot p v) (name.Snapshot i w) ≡ true → is_among (names ++ name.Snapshot p v ∷ []) (name.Snapshot i w) ≡ true
  now_claimed i w same = among_both names (name.Snapshot p v ∷ []) (name.Snapshot i w)
      ∙ or_right (is_among names (name.Snapshot i w)) (same_name (name.Snapshot p v) (name.Snapshot i w) || false) (or_left (same_name (name.Snapshot p v) (name.Snapshot i w)) false same)

  was_claimed : (i w : ℕ) → same_name (name.Snapshot p v) (name.Snapshot i w) ≡ false → is_among (names ++ name.Snapshot p v ∷ []) (name.Snapshot i w) ≡ true → is_among names (name.Snapshot i w) ≡ true
  was_claimed i w other is = first (is_among names (name.Snapshot i w)) (same_name (name.Snapshot p v) (name.Snapshot i w)) other (sym (among_both names (name.Snapshot p v ∷ []) (name.Snapshot i w)) ∙ is)
    where
      first : (a b : Bool) → b ≡ false → (a || (b || false)) ≡ true → a ≡ true
      first true b e h = refl
      first false true e h = absurd (true≢false e)
      first false false e h = h

-- ---- what is being made no more

swapped : (a b : Bool) → (a && b) ≡ (b && a)
swapped true true = refl
swapped true false = refl
swapped false true = refl
swapped false false = refl

pub without_is : (q r : Name) (names : List Name) → is_among (without q names) r ≡ (is_among names r && not (same_name r q))
without_is q r [] = refl
without_is q r (n ∷ ns) = by (same_name n q) refl (same_name n r) refl (without_is q r ns)
  where
    as_r : same_name n r ≡ true → same_name n q ≡ same_name r q
    as_r same = ap (λ (x : Name). same_name x q) (same_name-true n r same)

    by : (b : Bool) → same_name n q ≡ b → (a : Bool) → same_name n r ≡ a → is_among (without q ns) r ≡ (is_among ns r && not (same_name r q))
        → is_among (if not (same_name n q) then n ∷ without q ns else without q ns) r ≡ ((same_name n r || is_among ns r) && not (same_name r q))
    by true hb true ha ih =
        let gone : same_name r q ≡ true = sym (as_r ha) ∙ hb in
        ap (λ (x : Bool). is_among (if not x then n ∷ without q ns else without q ns) r) hb ∙ ih ∙ ap (λ (x : Bool). is_among ns r && not x) gone ∙ and-false (is_among ns r)
        ∙ sym (ap (λ (x : Bool). (same_name n r || is_among ns r) && not x) gone ∙ and-false (same_name n r || is_among ns r))
    by true hb false ha ih =
        ap (λ (x : Bool). is_among (if not x then n ∷ without q ns else without q ns) r) hb ∙ ih ∙ ap (λ (x : Bool). (x || is_among ns r) && not (same_name r q)) (sym ha)
    by false hb true ha ih =
        let stays : same_name r q ≡ false = sym (as_r ha) ∙ hb in
        ap (λ (x : Bool). is_among (if not x then n ∷ without q ns else without q ns) r) hb ∙ ap (λ (x : Bool). x || is_among (without q ns) r) ha
        ∙ sym (ap (λ (x : Bool). (x || is_among ns r) && not (same_name r q)) ha ∙ ap (λ (x : Bool). not x) stays)
    by false hb false ha ih =
        ap (λ (x : Bool). is_among (if not x then n ∷ without q ns else without q ns) r) hb ∙ ap (λ (x : Bool). x || is_among (without q ns) r) ha ∙ ih ∙ ap (λ (x : Bool). (x || is_among ns r) && not (same_name r q)) (sym ha)

stop_same : (a : Option Cause) (f : Cause) → or_stop a (stops_by a f) ≡ or_stop a (Some f)
stop_same None f = refl
stop_same (Some g) f = refl

stop_why : (a : Option Cause) (f : Cause) → (stops_by a f ≡ None) ⊎ (a ≡ None)
stop_why None f = inr refl
stop_why (Some g) f = inl refl

-- A snapshot comes back: those that are being made are with workers, but for this one.
module _ (c : Core) (d : Desk) (k : Shelf) (p v : ℕ) (held : ShowsShelf c k d) (there : machine.Place) where
  still_out : (i w : ℕ) → is_among (without (name.Snapshot p v) k.claimed) (name.Snapshot i w) ≡ true → (placed (upkeep p v) there d).tasks (upkeep i w) ≡ machine.out
  still_out i w is =
      let parts = and_parts (is_among k.claimed (name.Snapshot i w)) (not (same_name (name.Snapshot i w) (name.Snapshot p v))) (sym (without_is (name.Snapshot p v) (name.Snapshot i w) k.claimed) ∙ is) in
      ap (λ (b : Bool). if b then there else d.tasks (upkeep i w)) (swapped (w == v) (i == p) ∙ not-true (i == p && w == v) parts.1) ∙ held.claimed i w parts.0

  back_shelf : (o : Option Cause) → (o ≡ None → ⊥) → Shelves (last_of c) c.front.committed o (unclaimed (name.Snapshot p v) k) (placed (upkeep p v) there d)
  back_shelf o over = record {
    names = held.names;
    sure = held.sure;
    acknowledged = held.acknowledged;
    commits = held.commits;
    tidy = held.tidy;
    claimed = still_out;
    kept = λ run. absurd (over run);
  }

  taken_shelf : Shelves (last_of c) c.front.committed c.front.stop (untidy (with_name (name.Snapshot p v) (unclaimed (name.Snapshot p v) k))) (with_file (name.Snapshot p v) (placed (upkeep p v) there d))
  taken_shelf = record {
    names = added_names (unclaimed (name.Snapshot p v) k) (placed (upkeep p v) there d) (name.Snapshot p v) held.names;
    sure = held.sure;
    acknowledged = held.acknowledged;
    commits = held.commits;
    tidy = λ h. absurd (true≢false (sym h));
    claimed = still_out;
    kept = λ run i w. by run i w (same_name (name.Snapshot i w) (name.Snapshot p v)) refl;
  }
    where
      by : c.front.stop ≡ None → (i w : ℕ) (b : Bool) → same_name (name.Snapshot i w) (name.Snapshot p v) ≡ b
          → IsKept (untidy (with_name (name.Snapshot p v) (unclaimed (name.Snapshot p v) k))) (with_file (name.Snapshot p v) (placed (upkeep p v) there d)) i w
      by run i w true same = inr (inr (inl (ap (λ (b : Bool). if b then true else d.there (name.Snapshot i w)) same)))
      by run i w false other = elim (held.kept run i w) [
        | inl waits ↦ inl (ap (λ (b : Bool). if b then there else d.tasks (upkeep i w)) (swapped (w == v) (i == p) ∙ other) ∙ waits)
        | inr rest ↦ elim rest [
          | inl claimed ↦ inr (inl (without_is (name.Snapshot p v) (name.Snapshot i w) k.claimed ∙ ap (λ (b : Bool). b && not (same_name (name.Snapshot i w) (name.Snapshot p v))) claimed ∙ ap (λ (b : Bool). not b) other))
          | inr done ↦ elim done [
            | inl here ↦ inr (inr (inl (ap (λ (b : Bool). if b then true else d.there (name.Snapshot i w)) other ∙ here)))
            | inr gone ↦ inr (inr (inr gone))
          ]
        ]
      ]

-- ---- a file is removed

other_delta : (i w p v : ℕ) → v < w → same_name (name.Delta i w) (name.Delta p v) ≡ false
other_delta i w p v less = grind (arith, nat_tests)

other_snapshot : (i w p v : ℕ) → v < w → same_name (name.Snapshot i w) (name.Snapshot p v) ≡ false
other_snapshot i w p v less = grind (arith, nat_tests)

-- a partition and a version that are not apart are the same
same_both : (i w p v : ℕ) → same_name (name.Snapshot i w) (name.Snapshot p v) ≡ true → (i ≡ p) × (w ≡ v)
same_both i w p v same = let both : (name.Snapshot i w) ≡ name.Snapshot p v = same_name-true (name.Snapshot i w) (name.Snapshot p v) same in (cc, cc)

if_not : (b here : Bool) → b ≡ false → (if b then false else here) ≡ here
if_not true here e = absurd (true≢false e)
if_not false here e = refl

not_both : (a b : Bool) → (if a then false else b) ≡ (b && not a)
not_both true true = refl
not_both true false = refl
not_both false true = refl
not_both false false = refl

shared : (a b x : Bool) → ((a || b) && x) ≡ ((a && x) || (b && x))
shared true true true = refl
shared true true false = refl
shared true false true = refl
shared true false false = refl
shared false true true = refl
shared false true false = refl
shared false false true = refl
shared false false false = refl

pub still_sure : (b here sure : Bool) → (here ≡ true → sure ≡ true) → (if b then false else here) ≡ true → (if b then false else sure) ≡ true
still_sure true here sure is h = absurd (true≢false (sym h))
still_sure false here sure is h = is h

module _ (q : Name) (k : Shelf) where
  abbrev dropped : Shelf
  dropped = record { settled = without q k.settled; news = without q k.news; claimed = k.claimed; tidy = false }

  dropped_names : (r : Name) → is_among (there_in dropped) r ≡ (is_among (there_in k) r && not (same_name r q))
  dropped_names r = among_both (without q k.settled) (without q k.news) r
      ∙ ap (λ (b : Bool). b || is_among (without q k.news) r) (without_is q r k.settled)
      ∙ ap (λ (b : Bool). (is_among k.settled r && not (same_name r q)) || b) (without_is q r k.news)
      ∙ sym (shared (is_among k.settled r) (is_among k.news r) (not (same_name r q)))
      ∙ ap (λ (b : Bool). b && not (same_name r q)) (sym (among_both k.settled k.news r))

module _ (c : Core) (d : Desk) (k : Shelf) (held : ShowsShelf c k d) where
  gone_names : (q r : Name) → is_state r ≡ true → (without_file q d).there r ≡ is_among (there_in (dropped q k)) r
  gone_names q r is = not_both (same_name r q) (d.there r) ∙ ap (λ (b : Bool). b && not (same_name r q)) (held.names r is) ∙ sym (dropped_names q k r)

  gone_sure : (q r : Name) → is_state r ≡ true → (without_file q d).sure r ≡ is_among (without q k.settled) r
  gone_sure q r is = not_both (same_name r q) (d.sure r) ∙ ap (λ (b : Bool). b && not (same_name r q)) (held.sure r is) ∙ sym (without_is q r k.settled)

  delta_shelf : (p v : ℕ) → ShowsShelf c (dropped (name.Delta p v) k) (without_file (name.Delta p v) d)
  delta_shelf p v = record {
    names = gone_names (name.Delta p v);
    sure = gone_sure (name.Delta p v);
    acknowledged = held.acknowledged;
    commits = held.commits;
    tidy = λ h. absurd (true≢false (sym h));
    claimed = held.claimed;
    kept = λ run i w. held.kept run i w;
  }

  -- what had the dropped snapshot for its file, or was gone by it, is gone by the one above it
  snapshot_shelf : (p v s : ℕ) → v < s → d.sure (name.Snapshot p s) ≡ true → d.sure (name.Commit (s + 20)) ≡ true → ShowsShelf c (dropped (name.Snapshot p v) k) (without_file (name.Snapshot p v) d)
  snapshot_shelf p v s less sure acknowledged = record {
    names = gone_names (name.Snapshot p v);
    sure = gone_sure (name.Snapshot p v);
    acknowledged = held.acknowledged;
    commits = held.commits;
    tidy = λ h. absurd (true≢false (sym h));
    claimed = held.claimed;
    kept = λ run i w. elim (held.kept run i w) [
      | inl waits ↦ inl waits
      | inr rest ↦ elim rest [
        | inl claimed ↦ inr (inl claimed)
        | inr done ↦ elim done [
          | inl here ↦ there_by i w here (same_name (name.Snapshot i w) (name.Snapshot p v)) refl
          | inr gone ↦ gone_by i w gone.0 gone.1 gone.2 gone.3 (same_name (name.Snapshot i gone.0) (name.Snapshot p v)) refl
        ]
      ]
    ];
  }
    where
      -- it is gone by the snapshot above
      by_above : (i w : ℕ) → i ≡ p → w ≤ v → IsKept (dropped (name.Snapshot p v) k) (without_file (name.Snapshot p v) d) i w
      by_above i w same most = inr (inr (inr (
        s,
        omega (arith, most, less),
        if_not (same_name (name.Snapshot i s) (name.Snapshot p v)) (d.sure (name.Snapshot i s)) (other_snapshot i s p v less) ∙ subst (λ (x : ℕ). d.sure (name.Snapshot x s) ≡ true) (sym same) sure,
        acknowledged,
      )))

      there_by : (i w : ℕ) → d.there (name.Snapshot i w) ≡ true → (b : Bool) → same_name (name.Snapshot i w) (name.Snapshot p v) ≡ b → IsKept (dropped (name.Snapshot p v) k) (without_file (name.Snapshot p v) d) i w
      there_by i w here true same = let both = same_both i w p v same in by_above i w both.0 (omega (arith, both.1))
      there_by i w here false other = inr (inr (inl (if_not (same_name (name.Snapshot i w) (name.Snapshot p v)) (d.there (name.Snapshot i w)) other ∙ here)))

      gone_by : (i w above : ℕ) → w < above → d.sure (name.Snapshot i above) ≡ true → d.sure (name.Commit (above + 20)) ≡ true → (b : Bool) → same_name (name.Snapshot i above) (name.Snapshot p v) ≡ b
          → IsKept (dropped (name.Snapshot p v) k) (without_file (name.Snapshot p v) d) i w
      gone_by i w above less_w is old true same = let both = same_both i above p v same in by_above i w both.0 (let e = both.1 in omega (arith, less_w, e))
      gone_by i w above less_w is old false other = inr (inr (inr (above, less_w, if_not (same_name (name.Snapshot i above) (name.Snapshot p v)) (d.sure (name.Snapshot i above)) other ∙ is, old)))

module _ (job : Job) (r : Scope) (next : Cuts → ℕ → Bool) (terms : Terms job r next) (c : Core) (d : Desk) (s : Shows job r next terms c d) where
  gone_shows : (q : Name) → AreNeeded d c.front.committed (without_file q d).there (without_file q d).sure → Shows job r next terms c (without_file q d)
  gone_shows q needed = files_shows job r next terms c d (without_file q d).there (without_file q d).sure needed (λ h x other. still_sure (same_name x q) (d.there x) (d.sure x) (s.settled h x other)) s

  delta_shows : (p v : ℕ) → v < c.front.committed → Shows job r next terms c (without_file (name.Delta p v) d)
  delta_shows p v old = gone_shows (name.Delta p v) (record { plan = λ e. refl; plan_sure = λ e. refl; commit = λ e. refl; out = λ e. refl; delta = stays })
    where
      stays : (i : ℕ) → (without_file (name.Delta p v) d).there (name.Delta i c.front.committed) ≡ d.there (name.Delta i c.front.committed)
      stays i = if_not (same_name (name.Delta i c.front.committed) (name.Delta p v)) (d.there (name.Delta i c.front.committed)) (other_delta i c.front.committed p v old)

  snapshot_dropped : (p v : ℕ) → Shows job r next terms c (without_file (name.Snapshot p v) d)
  snapshot_dropped p v = gone_shows (name.Snapshot p v) (record { plan = λ e. refl; plan_sure = λ e. refl; commit = λ e. refl; out = λ e. refl; delta = λ i. refl })

module _ (told : Type 0) (job : Job) (r : Scope) (next : Cuts → ℕ → Bool) (terms : Terms job r next) where
  -- A due snapshot is handed out.
  module _ (c : Core) (d : Desk) (k : Shelf) (p v : ℕ) (held : ShowsShelf c k d) (due : IsDueAmong (is_among (asked_in k)) (is_sure k.settled (last_of c)) p v) where
    not_there : (is_among (there_in k) (name.Snapshot p v) ≡ false) × (is_among k.claimed (name.Snapshot p v) ≡ false)
    not_there = both (is_among (there_in k) (name.Snapshot p v)) (is_among k.claimed (name.Snapshot p v)) (sym (among_both (there_in k) k.claimed (name.Snapshot p v)) ∙ due.absent)
      where
        both : (a b : Bool) → (a || b) ≡ false → (a ≡ false) × (b ≡ false)
        both true b h = absurd (true≢false h)
        both false b h = (refl, h)

    is_due : IsDueAmong d.there d.sure p v
    is_due = record {
      tenth = due.tenth;
      acknowledged = held.acknowledged v ∙ due.acknowledged;
      absent = held.names (name.Snapshot p v) refl ∙ not_there.0;
      stays = λ s above sure. held.acknowledged (s + 20) ∙ due.stays s above (sym (held.sure (name.Snapshot p s) refl) ∙ sure);
    }

    waits : c.front.stop ≡ None → d.tasks (upkeep p v) ≡ machine.waits
    waits run = elim (held.kept run p v) [
      | inl is ↦ is
      | inr rest ↦ elim rest [
        | inl claimed ↦ absurd (true≢false (sym claimed ∙ not_there.1))
        | inr done ↦ elim done [
          | inl there ↦ absurd (true≢false (sym there ∙ is_due.absent))
          | inr gone ↦ absurd (true≢false (sym gone.3 ∙ is_due.stays gone.0 gone.1 gone.2))
        ]
      ]
    ]

    is_committed : v < c.front.committed
    is_committed =
        let less = ltb-true v (acknowledged_in c) (sym (up_to_is (acknowledged_in c) v) ∙ due.acknowledged) in
        let most = acknowledged_few c in
        omega (arith, less, most)

    claimed_shelf : Shelves (last_of c) c.front.committed c.front.stop (shelf_by c k (entry.Upkeep p v)) (placed (upkeep p v) machine.out d)
    claimed_shelf = record {
      names = held.names;
      sure = held.sure;
      acknowledged = held.acknowledged;
      commits = held.commits;
      tidy = held.tidy;
      claimed = λ i w is. now_out i w is (same_task (upkeep i w) (upkeep p v)) refl;
      kept = λ run i w. now_kept run i w (same_task (upkeep i w) (upkeep p v)) refl;
    }
      where
        now_out : (i w : ℕ) → is_among (k.claimed ++ name.Snapshot p v ∷ []) (name.Snapshot i w) ≡ true → (b : Bool) → same_task (upkeep i w) (upkeep p v) ≡ b
            → (if same_task (upkeep i w) (upkeep p v) then machine.out else d.tasks (upkeep i w)) ≡ machine.out
        now_out i w is true same = ap (λ (b : Bool). if b then machine.out else d.tasks (upkeep i w)) same
        now_out i w is false other = ap (λ (b : Bool). if b then machine.out else d.tasks (upkeep i w)) other ∙ held.claimed i w (was_claimed p v k.claimed i w (sym (turned p v i w) ∙ other) is)

        now_kept : c.front.stop ≡ None → (i w : ℕ) (b : Bool) → same_task (upkeep i w) (upkeep p v) ≡ b → IsKept (shelf_by c k (entry.Upkeep p v)) (placed (upkeep p v) machine.out d) i w
        now_kept run i w true same = inr (inl (now_claimed p v k.claimed i w (sym (turned p v i w) ∙ same)))
        now_kept run i w false other = elim (held.kept run i w) [
          | inl is ↦ inl (ap (λ (b : Bool). if b then machine.out else d.tasks (upkeep i w)) other ∙ is)
          | inr rest ↦ elim rest [ inl claimed ↦ inr (inl (more_claimed p v k.claimed i w claimed)) | inr done ↦ inr (inr done) ]
        ]

  pub upkeep_follows : (disk : History) (c : Core) (d : Desk) (k : Shelf) (p v : ℕ) → IsSound r c → Shows job r next terms c d → ShowsShelf c k d → May r c (entry.Upkeep p v) → MayKeep r c k (entry.Upkeep p v)
      → p < (job.course d.cuts).keeping → Follows told job r next terms disk c d (entry.Upkeep p v) disk c (shelf_by c k (entry.Upkeep p v))
  upkeep_follows disk c d k p v sound s held m due keeps =
      let early = is_committed c d k p v held due in
      let near = sound.before in (
        placed (upkeep p v) machine.out d,
        (
          shown disk c (placed (upkeep p v) machine.out d),
          (
            nothing,
            Some (placed (upkeep p v) machine.out d),
            (
              d,
              placed (upkeep p v) machine.out d,
              refl,
              refl,
              (goes_on job r next terms c d sound s m, (terms.upkeeps d.cuts p v keeps, waits c d k p v held due m, record { keeps = keeps; due = is_due c d k p v held due }), refl, refl),
            ),
            (λ t. (elapses_same disk (Allows nothing (had_now disk)), refl, tt)),
            refl,
          ),
          refl,
        ),
        refl,
        kept_shows job r next terms c d p v machine.out c.front.stop (omega (arith, early, near)) (λ same. absurd (omega (arith, early, same))) (λ run. (run, out_failed)) s,
        claimed_shelf c d k p v held due,
      )

  -- What came back in place of a snapshot.
  pub unmade_follows : (disk : History) (c : Core) (d : Desk) (k : Shelf) (p v : ℕ) (f : Cause) → Shows job r next terms c d → ShowsShelf c k d → MayKeep r c k (entry.Unmade p v f)
      → Follows told job r next terms disk c d (entry.Unmade p v f) disk (after r c (entry.Unmade p v f)) (shelf_by c k (entry.Unmade p v f))
  unmade_follows disk c d k p v f s held keeps =
      let out = held.claimed p v keeps in
      let n : Desk = placed (upkeep p v) machine.failed d in (
        n,
        subst (λ (o : Option Cause). machine.Leads told job (shown disk c d) (event.Report (upkeep p v) ∷ stops (stops_by c.front.stop f)) (record { disk = disk; desk = Some n; life = life_of o })) (stop_same c.front.stop f)
            (report_stops told job (shown disk c d) disk c n (event.Report (upkeep p v) ∷ []) (stops_by c.front.stop f) (stop_why c.front.stop f) (
              record { disk = disk; desk = Some n; life = life_of c.front.stop },
              (nothing, Some n, (d, n, refl, refl, inl (out, refl, refl, owes_none c.front.stop)), (λ t. (elapses_same disk (Allows nothing (had_now disk)), refl, tt)), refl),
              refl,
            )),
        refl,
        kept_shows job r next terms c d p v machine.failed (or_stop c.front.stop (Some f)) (early_of job r next terms c d p v s out) (fresh_of job r next terms c d p v s out) (λ run. absurd (or_some c.front.stop f run)) s,
        back_shelf c d k p v held machine.failed (or_stop c.front.stop (Some f)) (or_some c.front.stop f),
      )

  -- A snapshot comes back sealed.
  module _ (c : Core) (d : Desk) (k : Shelf) (p v : ℕ) (s : Shows job r next terms c d) (held : ShowsShelf c k d) (keeps : is_among k.claimed (name.Snapshot p v) ≡ true) where
    abbrev bytes : List ℕ
    bytes = (job.course d.cuts).state p (v + 1)

    abbrev sealed_desk : Desk
    sealed_desk = placed (upkeep p v) (machine.sealed ((job.course d.cuts).state p (v + 1))) d

    abbrev back_desk : Desk
    back_desk = placed (upkeep p v) (machine.back false (Some ((job.course d.cuts).state p (v + 1)))) d

    out_is : d.tasks (upkeep p v) ≡ machine.out
    out_is = held.claimed p v keeps

    back_shows : (o : Option Cause) → (o ≡ None → c.front.stop ≡ None) → Shows job r next terms (with_front c (stopped_front c.front o)) back_desk
    back_shows o runs = kept_shows job r next terms c d p v (machine.back false (Some bytes)) o (early_of job r next terms c d p v s out_is) (fresh_of job r next terms c d p v s out_is) (λ run. (runs run, back_failed false (Some bytes))) s

    back_is : back_desk ≡ placed (upkeep p v) (machine.back ((job.course d.cuts).is_fault (upkeep p v)) (Some bytes)) sealed_desk
    back_is = ap (λ (b : Bool). placed (upkeep p v) (machine.back b (Some bytes)) d) (sym (terms.upkeep_good d.cuts p v))
        ∙ sym (placed_twice (upkeep p v) (machine.sealed bytes) (machine.back ((job.course d.cuts).is_fault (upkeep p v)) (Some bytes)) d)

    seals : (disk : History) → machine.Step told job (shown disk c d) (event.Seal (upkeep p v)) (record { disk = disk; desk = Some sealed_desk; life = life_of c.front.stop })
    seals disk = (
      nothing,
      Some sealed_desk,
      (d, sealed_desk, refl, refl, (bytes, out_is, (refl, refl), refl, owes_none c.front.stop)),
      (λ t. (elapses_same disk (Allows nothing (had_now disk)), refl, tt)),
      refl,
    )

    reports : (disk : History) → machine.Step told job (record { disk = disk; desk = Some sealed_desk; life = life_of c.front.stop }) (event.Report (upkeep p v)) (record { disk = disk; desk = Some back_desk; life = life_of c.front.stop })
    reports disk = (
      nothing,
      Some back_desk,
      (sealed_desk, back_desk, refl, refl, inr (Some bytes, inr (bytes, placed_at (upkeep p v) (machine.sealed bytes) d, refl), inl (refl, back_is, owes_none c.front.stop, inr (λ is h. upkeep_reduce is)))),
      (λ t. (elapses_same disk (Allows nothing (had_now disk)), refl, tt)),
      refl,
    )

    -- the snapshot may be published then
    takes : c.front.stop ≡ None → machine.MayOn job back_desk (life_of c.front.stop) (event.Snapshot p v) (publishes (name.Snapshot p v) bytes) (with_file (name.Snapshot p v) back_desk)
    takes run = (
      bytes,
      record { runs = runs_on c run; whole = (back_shows c.front.stop (λ is. is)).whole run },
      placed_at (upkeep p v) (machine.back false (Some bytes)) d,
      refl,
      refl,
    )

    snapshot_by : (was : Option Cause) → c.front.stop ≡ was → (old new : History) → Done (makes_by job d.cuts p v was) old new
        → Follows told job r next terms old c d (entry.Snapshot p v) new c (shelf_by c k (entry.Snapshot p v))
    snapshot_by None run old new moves =
        let n : Desk = with_file (name.Snapshot p v) back_desk in
        let w = went (publishes (name.Snapshot p v) bytes) old new moves in (
          n,
          subst (λ (o : Option Cause). machine.Leads told job (shown old c d) (event.Seal (upkeep p v) ∷ event.Report (upkeep p v) ∷ makes o p v) (shown new c n)) (sym run) (
            record { disk = old; desk = Some sealed_desk; life = life_of c.front.stop },
            seals old,
            (
              record { disk = old; desk = Some back_desk; life = life_of c.front.stop },
              reports old,
              (
                shown new c n,
                (publishes (name.Snapshot p v) bytes, Some n, (back_desk, n, refl, refl, takes run), (λ t. (w.0, w.1, tt)), refl),
                refl,
              ),
            ),
          ),
          refl,
          snapshot_shows job r next terms c back_desk p v (back_shows c.front.stop (λ is. is)),
          subst (λ (o : Option Cause). Shelves (last_of c) c.front.committed c.front.stop (snapshot_on (is_stopped o) (name.Snapshot p v) k) n) (sym run) (taken_shelf c d k p v held (machine.back false (Some bytes))),
        )
    snapshot_by (Some f) is old new moves =
        subst (λ (h : History). Follows told job r next terms old c d (entry.Snapshot p v) h c (shelf_by c k (entry.Snapshot p v))) (sym moves) (
          back_desk,
          subst (λ (o : Option Cause). machine.Leads told job (shown old c d) (event.Seal (upkeep p v) ∷ event.Report (upkeep p v) ∷ makes o p v) (shown old c back_desk)) (sym is) (
            record { disk = old; desk = Some sealed_desk; life = life_of c.front.stop },
            seals old,
            (shown old c back_desk, reports old, refl),
          ),
          refl,
          back_shows c.front.stop (λ run. run),
          subst (λ (o : Option Cause). Shelves (last_of c) c.front.committed c.front.stop (snapshot_on (is_stopped o) (name.Snapshot p v) k) back_desk) (sym is)
              (back_shelf c d k p v held (machine.back false (Some bytes)) c.front.stop (λ run. none_some f (sym is ∙ run))),
        )

  pub snapshot_follows : (old new : History) (c : Core) (d : Desk) (k : Shelf) (p v : ℕ) → Shows job r next terms c d → ShowsShelf c k d → MayKeep r c k (entry.Snapshot p v) → Moves job r c d.cuts (entry.Snapshot p v) old new
      → Follows told job r next terms old c d (entry.Snapshot p v) new c (shelf_by c k (entry.Snapshot p v))
  snapshot_follows old new c d k p v s held keeps moves = snapshot_by c d k p v s held keeps c.front.stop refl old new moves

  pub untaken_follows : (old new : History) (c : Core) (d : Desk) (k : Shelf) (p v : ℕ) → Shows job r next terms c d → ShowsShelf c k d → May r c (entry.Untaken p v) → MayKeep r c k (entry.Untaken p v)
      → Moves job r c d.cuts (entry.Untaken p v) old new → Follows told job r next terms old c d (entry.Untaken p v) new (after r c (entry.Untaken p v)) (shelf_by c k (entry.Untaken p v))
  untaken_follows old new c d k p v s held m keeps moves =
      let n : Desk = back_desk c d k p v s held keeps in
      let file : List ℕ = (job.course d.cuts).state p (v + 1) in (
        n,
        (
          record { disk = old; desk = Some (sealed_desk c d k p v s held keeps); life = life_of c.front.stop },
          seals c d k p v s held keeps old,
          (
            record { disk = old; desk = Some n; life = life_of c.front.stop },
            reports c d k p v s held keeps old,
            (
              shown new (after r c (entry.Untaken p v)) n,
              (
                publishes (name.Snapshot p v) file,
                not_over c.front.stop m,
                inr (inl (event.Snapshot p v, Some (with_file (name.Snapshot p v) n), (n, with_file (name.Snapshot p v) n, refl, refl, takes c d k p v s held keeps m))),
                (λ t. tried (publishes (name.Snapshot p v) file) old new moves),
                refl,
              ),
              refl,
            ),
          ),
        ),
        refl,
        back_shows c d k p v s held keeps (Some cause.DiskFault) (λ none. none_some cause.DiskFault none),
        back_shelf c d k p v held (machine.back false (Some file)) (Some cause.DiskFault) (some_no cause.DiskFault),
      )

  -- A file is removed, or that failed.
  module _ (c : Core) (d : Desk) (k : Shelf) (q : Name) (held : ShowsShelf c k d) (goes : Goes (there_in k) k.settled r.partitions (last_of c) q) where
    abbrev may_go : MayGo d.sure q
    may_go = record {
      p = goes.may.p;
      s = goes.may.s;
      v = goes.may.v;
      snapshot = held.sure (name.Snapshot goes.may.p goes.may.s) refl ∙ goes.may.snapshot;
      acknowledged = held.acknowledged (goes.may.s + 20) ∙ goes.may.acknowledged;
      is = goes.may.is;
    }

    is_old : (v : ℕ) → v ≤ goes.may.s → v < c.front.committed
    is_old v most =
        let less = ltb-true (goes.may.s + 20) (acknowledged_in c) (sym (up_to_is (acknowledged_in c) (goes.may.s + 20)) ∙ goes.may.acknowledged) in
        let few = acknowledged_few c in
        omega (arith, most, less, few)

    drop_shows : Shows job r next terms c d → Shows job r next terms c (without_file q d)
    drop_shows s = elim goes.may.is [
      | inl delta ↦ subst (λ (x : Name). Shows job r next terms c (without_file x d)) (sym delta.0) (delta_shows job r next terms c d s goes.may.p goes.may.v (is_old goes.may.v delta.1))
      | inr snapshot ↦ subst (λ (x : Name). Shows job r next terms c (without_file x d)) (sym snapshot.0) (snapshot_dropped job r next terms c d s goes.may.p goes.may.v)
    ]

    drop_shelf : ShowsShelf c (dropped q k) (without_file q d)
    drop_shelf = elim goes.may.is [
      | inl delta ↦ subst (λ (x : Name). ShowsShelf c (dropped x k) (without_file x d)) (sym delta.0) (delta_shelf c d k held goes.may.p goes.may.v)
      | inr snapshot ↦ subst (λ (x : Name). ShowsShelf c (dropped x k) (without_file x d)) (sym snapshot.0) (snapshot_shelf c d k held goes.may.p goes.may.v goes.may.s snapshot.1 may_go.snapshot may_go.acknowledged)
    ]

  pub drop_follows : (old new : History) (c : Core) (d : Desk) (k : Shelf) (q : Name) → IsSound r c → Shows job r next terms c d → ShowsShelf c k d → May r c (entry.Drop q) → MayKeep r c k (entry.Drop q)
      → Moves job r c d.cuts (entry.Drop q) old new → Follows told job r next terms old c d (entry.Drop q) new c (shelf_by c k (entry.Drop q))
  drop_follows old new c d k q sound s held m goes moves =
      let n = without_file q d in (
        n,
        (
          shown new c n,
          (
            removes q,
            Some n,
            (d, n, refl, refl, (goes_on job r next terms c d sound s m, may_go c d k q held goes, refl, refl)),
            (λ t. (let w = went (removes q) old new moves in (w.0, w.1, tt))),
            refl,
          ),
          refl,
        ),
        refl,
        drop_shows c d k q held goes s,
        drop_shelf c d k q held goes,
      )

  pub undropped_follows : (old new : History) (c : Core) (d : Desk) (k : Shelf) (q : Name) → IsSound r c → Shows job r next terms c d → ShowsShelf c k d → May r c (entry.Undropped q) → MayKeep r c k (entry.Undropped q)
      → Moves job r c d.cuts (entry.Undropped q) old new → Follows told job r next terms old c d (entry.Undropped q) new (after r c (entry.Undropped q)) k
  undropped_follows old new c d k q sound s held m goes moves = (
    d,
    (
      shown new (after r c (entry.Undropped q)) d,
      (
        removes q,
        not_over c.front.stop m,
        inr (inl (event.Drop q, Some (without_file q d), (d, without_file q d, refl, refl, (goes_on job r next terms c d sound s m, may_go c d k q held goes, refl, refl)))),
        (λ t. tried (removes q) old new moves),
        refl,
      ),
      refl,
    ),
    refl,
    stopped_shows job r next terms c d cause.DiskFault s,
    shelves_stopped (last_of c) c.front.committed c.front.stop (Some cause.DiskFault) k d (λ none. none_some cause.DiskFault none) held,
  )
