-- A version that comes back: the machine's events of it, and that the desk still shows the machine's.
use Rattle.std.proofs.Common.{◌≡◌, ◌+◌, ◌&&◌, ℕ, Bool, true, false, true≢false, List, [], ◌∷◌, Option, Some, None, sym, refl, ap, ◌∙◌, subst, inl, inr, ltb-true}
use mathlib.Core.Option.{some}
use Rattle.ssq_outside.specs.declared.name.Name.{Name}
use Rattle.ssq_outside.specs.declared.name.Name.TheVariants as name
use Rattle.ssq_outside.specs.declared.gate.TaskId.{TaskId}
use Rattle.ssq_outside.specs.declared.gate.Kind.{Kind}
use Rattle.ssq_outside.specs.declared.gate.Kind.TheVariants as kind
use Rattle.ssq_outside.specs.History.{History, had_now}
use Rattle.ssq_core.specs.declared.event.Event.TheVariants as event
use Rattle.ssq_core.specs.Course.{Cuts, Job}
use Rattle.ssq_core.specs.Machine.{Desk, placed, with_file, with_store, Change, nothing, misses, publishes, Allows, reduce, out_task}
use Rattle.ssq_core.specs.Machine as machine
use Rattle.ssq_core.proofs.Epochs.{there_new}
use Rattle.ssq_board.specs.declared.front.Cause.{Cause}
use Rattle.ssq_board.specs.declared.front.Cause.TheVariants as cause
use Rattle.ssq_board.specs.declared.front.Front.{Front}
use Rattle.ssq_board.specs.declared.front.Place.TheVariants as place
use Rattle.ssq_board.specs.declared.front.Entry.TheVariants as entry
use Rattle.ssq_board.specs.Core.{Scope, Core, is_open, at, moved, with_front, stopped_front, version_front, is_stopped, or_stop, due, May, after}
use Rattle.ssq_board.specs.Follows.{Terms, Goes, Tries, Moves, publishes_by, BringsVersion, IsRight, IsDone, is_snapshot, Shows, Shelves, ShowsShelf, life_of, shown}
use Rattle.ssq_board.specs.Shelf.{Shelf, last_of, version_on, shelf_by}
use Rattle.ssq_board.proofs.Keeping.{shelves_placed, shelves_stored, shelves_stopped, shelves_delta, open_last, or_stop_none}
use Rattle.ssq_board.proofs.Sounds.{due_none}
use Rattle.ssq_board.proofs.Placing.{placed_at, placed_twice, same_at, shows_else, HasBrought, placed_shows}
use Rattle.ssq_board.proofs.Planning.{runs_on, there_still}
use Rattle.ssq_board.proofs.Leading.{elapses_same, owes_none, went, tried, out_not_done, out_back, back_failed, report_stops, due_why, Follows}
use Rattle.ssq_board.proofs.Upkeeping.{out_waits}

-- a desk with other files, and with other stores
abbrev grown : (Name → Bool) → (ℕ → List ℕ) → Desk → Desk
grown names stores d = record { cuts = d.cuts; planned = d.planned; committed = d.committed; there = names; sure = d.sure; tasks = d.tasks; stores = stores }

abbrev settled_as : Front → Bool → Front
settled_as f settled = record { planned = f.planned; committed = f.committed; fresh = f.fresh; settled = settled; written = f.written; has_lines = f.has_lines; due = f.due; stop = f.stop }

out_reduce : (e n : ℕ) {p : ℕ} → out_task e ≡ reduce n p → ⊥
out_reduce e n same = kinds (ap (λ (t : TaskId). t.kind) same)
  where
    kinds : kind.Out ≡ kind.Reduce → ⊥
    kinds e = cc

owing_stopped : (t : TaskId) → machine.owing t ≡ machine.stopped → ⊥
owing_stopped t e = cc

module _ (told : Type 0) (job : Job) (r : Scope) (next : Cuts → ℕ → Bool) (terms : Terms job r next) where
  -- files that come are no other tasks, and stores are not shown
  grown_shows : (c : Core) (d : Desk) (names : Name → Bool) (stores : ℕ → List ℕ) (settled : Bool) → ((q : Name) → d.there q ≡ true → names q ≡ true) → (settled ≡ true → (q : Name) → is_snapshot q ≡ false → names q ≡ true → d.sure q ≡ true)
      → Shows job r next terms c d → Shows job r next terms (with_front c (settled_as c.front settled)) (grown names stores d)
  grown_shows c d names stores settled more sure s = shows_else job r next terms c d (with_front c (settled_as c.front settled)) (grown names stores d) s (record {
    settled = sure;
    plan_there = λ k less. more (name.Plan k) (s.plan_there k less);
    plan_settled = s.plan_settled;
    commits = λ k less. more (name.Commit k) (s.commits k less);
  }) (record {
    written = λ o w. (more (name.Out c.front.committed) (s.written o w).0, (s.written o w).1);
    tasks = λ o t p epoch here. s.tasks o t p epoch (same_at t.kind c (settled_as c.front settled) t.number ∙ here);
    deltas = λ o run i less here. more (name.Delta i c.front.committed) (s.deltas o run i less here);
    reduced = λ o. elim (s.reduced o) [ inl waits ↦ inl waits | inr all ↦ inr (λ i less. more (name.Delta i c.front.committed) (all i less)) ];
    mapped = s.mapped;
    claimed = s.claimed;
    later = s.later;
    whole = s.whole;
  })

  -- the reduce task t of partition p in epoch e is away
  module _ (c : Core) (d : Desk) (e p : ℕ) (s : Shows job r next terms c d) (opened : is_open c ≡ true) (epoch : e ≡ c.front.committed) (here : at c (reduce e p) ≡ some place.Away) (k : Shelf) (held : ShowsShelf c k d) where
    is_out : d.tasks (reduce e p) ≡ machine.out
    is_out = s.tasks opened (reduce e p) place.Away epoch here

    is_fresh : c.front.fresh ≡ true
    is_fresh = elim (s.claimed (reduce e p) epoch) [ inl waits ↦ absurd (out_waits (sym is_out ∙ waits)) | inr fresh ↦ fresh ]

    -- once its version is back
    version_shows : (was : Option Cause) → c.front.stop ≡ was → (there : machine.Place) → IsDone (job.course d.cuts) (reduce e p) there → (there ≡ machine.failed → ⊥) → (names : Name → Bool) (stores : ℕ → List ℕ)
        → ((q : Name) → d.there q ≡ true → names q ≡ true) → ((is_stopped was && c.front.settled) ≡ true → (q : Name) → is_snapshot q ≡ false → names q ≡ true → d.sure q ≡ true) → (was ≡ None → names (name.Delta p e) ≡ true)
        → Shows job r next terms (after r c (entry.Version (reduce e p))) (placed (reduce e p) there (grown names stores d))
    version_shows was is there done whole names stores more sure brought =
        let t : TaskId = reduce e p in
        let settled = is_stopped was && c.front.settled in
        let c1 : Core = with_front c (settled_as c.front settled) in
        let o : Option Cause = or_stop c.front.stop (due c t None) in
        subst (λ (x : Core). Shows job r next terms x (placed t there (grown names stores d))) (version_is was is o)
        (placed_shows job r next terms c1 (grown names stores d) t place.Away (place.Back None) there o opened epoch is_fresh here (out_not_done (job.course d.cuts) t (d.tasks t) machine.out is_out out_back) done
        (has was is names stores brought) (λ run. ((due_none c t None run).0, whole)) (grown_shows c d names stores settled more sure s))
      where
        version_is : (was : Option Cause) → c.front.stop ≡ was → (o : Option Cause)
            → with_front (moved c (reduce e p) (place.Back None)) (stopped_front (settled_as c.front (is_stopped was && c.front.settled)) o) ≡ with_front (moved c (reduce e p) (place.Back None)) (version_front c.front o)
        version_is was is o =
            ap (λ (x : Option Cause). with_front (moved c (reduce e p) (place.Back None)) (stopped_front (settled_as c.front (is_stopped x && c.front.settled)) o)) (sym is)

        has : (was : Option Cause) → c.front.stop ≡ was → (names : Name → Bool) (stores : ℕ → List ℕ) → (was ≡ None → names (name.Delta p e) ≡ true)
            → HasBrought (job.course d.cuts) (with_front c (settled_as c.front (is_stopped was && c.front.settled))) (grown names stores d) (reduce e p) (place.Back None) (or_stop c.front.stop (due c (reduce e p) None))
        has was is names stores brought = record {
          own = λ i same back run less. subst (λ (x : TaskId). names (name.Delta x.number x.epoch) ≡ true) (sym same) (brought (sym is ∙ (due_none c (reduce e p) None run).0));
          all = λ same. absurd (out_reduce c.front.committed e same);
        }

    module _ (right : BringsVersion (job.course d.cuts) (reduce e p)) where
      -- the machine's desk once the task has moved its store on, and once it has sealed the delta
      abbrev stored : Desk
      stored = with_store p ((job.course d.cuts).state p (e + 1)) d

      abbrev sealed_desk : Desk
      sealed_desk = placed (reduce e p) (machine.sealed ((job.course d.cuts).delta p e)) stored

      abbrev back_place : Bool → machine.Place
      back_place fault = machine.back fault (Some ((job.course d.cuts).delta p e))

      done : (fault : Bool) → fault ≡ false → IsDone (job.course d.cuts) (reduce e p) (back_place fault)
      done fault none = record { bytes = Some ((job.course d.cuts).delta p e); is = ap back_place none; has = λ h. refl }

      seals : (disk : History) → machine.Step told job (shown disk c d) (event.Seal (reduce e p)) (record { disk = disk; desk = Some sealed_desk; life = life_of c.front.stop })
      seals disk = (
        nothing,
        Some sealed_desk,
        (d, sealed_desk, refl, refl, ((job.course d.cuts).delta p e, is_out, ((job.course d.cuts).state p (e + 1), ltb-true p (job.course d.cuts).keeping right.1, (λ same. (refl, refl)), refl), refl, owes_none c.front.stop)),
        (λ t. (elapses_same disk (Allows nothing (had_now disk)), refl, tt)),
        refl,
      )

      -- its place is none of upkeep
      elsewhere : (there : machine.Place) → ShowsShelf c k (placed (reduce e p) there stored)
      elsewhere there = shelves_placed (last_of c) c.front.committed c.front.stop c.front.stop k stored (reduce e p) there no_upkeep_kind (λ run. run)
          (shelves_stored (last_of c) c.front.committed c.front.stop k d p ((job.course d.cuts).state p (e + 1)) held)
        where
          no_upkeep_kind : kind.Reduce ≡ kind.Upkeep → ⊥
          no_upkeep_kind e = cc

      -- the shelf with its version, where the desk ran or did not
      version_shelf : (was : Option Cause) → c.front.stop ≡ was → (n : Desk) → Shelves (last_of c) c.front.committed (or_stop c.front.stop (due c (reduce e p) None)) (version_on (is_stopped was) (name.Delta p e) k) n
          → ShowsShelf (after r c (entry.Version (reduce e p))) (shelf_by c k (entry.Version (reduce e p))) n
      version_shelf was is n held_on =
          subst (λ (l : Option ℕ). Shelves l c.front.committed (or_stop c.front.stop (due c (reduce e p) None)) (shelf_by c k (entry.Version (reduce e p))) n)
          (open_last c opened ∙ sym (open_last (after r c (entry.Version (reduce e p))) opened))
          (subst (λ (o : Option Cause). Shelves (last_of c) c.front.committed (or_stop c.front.stop (due c (reduce e p) None)) (version_on (is_stopped o) (name.Delta p e) k) n) (sym is) held_on)

      -- the delta is published
      abbrev published : Desk
      published = with_file (name.Delta p e) (placed (reduce e p) (back_place false) stored)

      publishes_leads : (old new : History) → c.front.stop ≡ None → Goes (publishes (name.Delta p e) ((job.course d.cuts).delta p e)) old new
          → machine.Leads told job (shown old c d) (event.Seal (reduce e p) ∷ event.Report (reduce e p) ∷ []) (record { disk = new; desk = Some published; life = life_of c.front.stop })
      publishes_leads old new run moves =
          let t : TaskId = reduce e p in
          let bytes = (job.course d.cuts).delta p e in
          let w = went (publishes (name.Delta p e) bytes) old new moves in (
            record { disk = old; desk = Some sealed_desk; life = life_of c.front.stop },
            seals old,
            (
              record { disk = new; desk = Some published; life = life_of c.front.stop },
              (
                publishes (name.Delta p e) bytes,
                Some published,
                (
                  sealed_desk,
                  published,
                  refl,
                  refl,
                  inr (
                    Some bytes,
                    inr (bytes, placed_at t (machine.sealed bytes) stored, refl),
                    inr (inl (bytes, runs_on c run, refl, right.0, refl, refl, ap (with_file (name.Delta p e)) (sym (placed_twice t (machine.sealed bytes) (back_place false) stored)))),
                  ),
                ),
                (λ t. (w.0, w.1, tt)),
                refl,
              ),
              refl,
            ),
          )

      -- after a Stop it is not
      keeps_leads : (disk : History) → life_of c.front.stop ≡ machine.stopped → machine.Leads told job (shown disk c d) (event.Seal (reduce e p) ∷ event.Report (reduce e p) ∷ [])
          (record { disk = disk; desk = Some (placed (reduce e p) (back_place ((job.course d.cuts).is_fault (reduce e p))) stored); life = life_of c.front.stop })
      keeps_leads disk over =
          let t : TaskId = reduce e p in
          let bytes = (job.course d.cuts).delta p e in
          let there = back_place ((job.course d.cuts).is_fault t) in (
            record { disk = disk; desk = Some sealed_desk; life = life_of c.front.stop },
            seals disk,
            (
              record { disk = disk; desk = Some (placed t there stored); life = life_of c.front.stop },
              (
                nothing,
                Some (placed t there stored),
                (
                  sealed_desk,
                  placed t there stored,
                  refl,
                  refl,
                  inr (Some bytes, inr (bytes, placed_at t (machine.sealed bytes) stored, refl), inl (refl, sym (placed_twice t (machine.sealed bytes) there stored), owes_none c.front.stop, inl over)),
                ),
                (λ t. (elapses_same disk (Allows nothing (had_now disk)), refl, tt)),
                refl,
              ),
              refl,
            ),
          )

      version_by : (was : Option Cause) → c.front.stop ≡ was → (old new : History) → Goes (publishes_by job d.cuts (reduce e p) was) old new
          → Follows told job r next terms old c d (entry.Version (reduce e p)) new (after r c (entry.Version (reduce e p))) (shelf_by c k (entry.Version (reduce e p)))
      version_by None run old new moves =
          let t : TaskId = reduce e p in (
            published,
            report_stops told job (shown old c d) new c published (event.Seal t ∷ event.Report t ∷ []) (due c t None) (due_why c t None) (publishes_leads old new run moves),
            refl,
            version_shows None run (back_place false) (done false refl) (λ e. back_failed e) (with_file (name.Delta p e) d).there stored.stores (λ q is. there_still q (name.Delta p e) d is)
                (λ h. absurd (true≢false (sym h))) (λ none. there_new (name.Delta p e) d),
            version_shelf None run published (shelves_delta (last_of c) c.front.committed p e c.front.stop (or_stop c.front.stop (due c t None)) k (placed t (back_place false) stored) (or_stop_none c.front.stop (due c t None)) (elsewhere (back_place false))),
          )
      version_by (Some f) is old new moves =
          let t : TaskId = reduce e p in
          let there = back_place ((job.course d.cuts).is_fault t) in
          subst (λ (h : History). Follows told job r next terms old c d (entry.Version t) h (after r c (entry.Version t)) (shelf_by c k (entry.Version t))) (sym moves) (
            placed t there stored,
            report_stops told job (shown old c d) old c (placed t there stored) (event.Seal t ∷ event.Report t ∷ []) (due c t None) (due_why c t None) (keeps_leads old (ap life_of is)),
            refl,
            version_shows (Some f) is there (done ((job.course d.cuts).is_fault t) right.0) (λ e. back_failed e) d.there stored.stores (λ q is. is) s.settled (λ none. absurd (some_none none)),
            version_shelf (Some f) is (placed t there stored) (shelves_stopped (last_of c) c.front.committed c.front.stop (or_stop c.front.stop (due c t None)) k (placed t there stored) (or_stop_none c.front.stop (due c t None)) (elsewhere there)),
          )
        where
          some_none : Some f ≡ None → ⊥
          some_none e = cc

      -- The publishing failed: the report misses it, and the Stop after it may have tried it.
      missed_by : (old new : History) → c.front.stop ≡ None → Tries (publishes (name.Delta p e) ((job.course d.cuts).delta p e)) old new
          → Follows told job r next terms old c d (entry.Missed (reduce e p)) new (after r c (entry.Missed (reduce e p))) k
      missed_by old new run moves =
          let t : TaskId = reduce e p in
          let bytes = (job.course d.cuts).delta p e in
          let n : Desk = placed t (back_place false) stored in (
            n,
            (
              record { disk = old; desk = Some sealed_desk; life = life_of c.front.stop },
              seals old,
              (
                record { disk = old; desk = Some n; life = machine.owing t },
                (
                  misses t,
                  Some n,
                  (
                    sealed_desk,
                    n,
                    refl,
                    refl,
                    inr (
                      Some bytes,
                      inr (bytes, placed_at t (machine.sealed bytes) stored, refl),
                      inr (inr (bytes, runs_on c run, refl, right.0, refl, refl, sym (placed_twice t (machine.sealed bytes) (back_place false) stored))),
                    ),
                  ),
                  (λ t. (elapses_same old (Allows (misses (reduce e p)) (had_now old)), refl, tt)),
                  refl,
                ),
                (
                  record { disk = new; desk = Some n; life = machine.stopped },
                  (
                    publishes (name.Delta p e) bytes,
                    owing_stopped t,
                    inr (inr (n, t, bytes, refl, refl, placed_at t (back_place false) stored, refl, refl)),
                    (λ t. tried (publishes (name.Delta p e) bytes) old new moves),
                    refl,
                  ),
                  refl,
                ),
              ),
            ),
            refl,
            placed_shows job r next terms c (grown d.there stored.stores d) t place.Away (place.Back (Some cause.DiskFault)) (back_place false) (Some cause.DiskFault) opened epoch is_fresh here
                (out_not_done (job.course d.cuts) t (d.tasks t) machine.out is_out out_back) tt has (λ none. absurd (some_none none)) (grown_shows c d d.there stored.stores c.front.settled (λ q is. is) s.settled s),
            shelves_stopped (last_of c) c.front.committed c.front.stop (Some cause.DiskFault) k n (λ none. absurd (some_none none)) (elsewhere (back_place false)),
          )
        where
          some_none : Some cause.DiskFault ≡ None → ⊥
          some_none e = cc

          has : HasBrought (job.course d.cuts) c (grown d.there stored.stores d) (reduce e p) (place.Back (Some cause.DiskFault)) (Some cause.DiskFault)
          has = record { own = λ i same back none. absurd (some_none none); all = λ same. absurd (out_reduce c.front.committed e same) }

  -- what is said of a reduce task, said of its epoch and partition
  as_reduce : (P : TaskId → Type 0) (t : TaskId) → t.kind ≡ kind.Reduce → P t → P (reduce t.epoch t.number)
  as_reduce P t is = subst (λ (k : Kind). P (record { epoch = t.epoch; kind = k; number = t.number })) is

  of_reduce : (P : TaskId → Type 0) (t : TaskId) → t.kind ≡ kind.Reduce → P (reduce t.epoch t.number) → P t
  of_reduce P t is = subst (λ (k : Kind). P (record { epoch = t.epoch; kind = k; number = t.number })) (sym is)

  pub version_follows : (old new : History) (c : Core) (d : Desk) (k : Shelf) (t : TaskId) → Shows job r next terms c d → ShowsShelf c k d → May r c (entry.Version t) → IsRight job next d.cuts (entry.Version t) → Moves job r c d.cuts (entry.Version t) old new
      → Follows told job r next terms old c d (entry.Version t) new (after r c (entry.Version t)) (shelf_by c k (entry.Version t))
  version_follows old new c d k t s held m right moves =
      of_reduce (λ (x : TaskId). Follows told job r next terms old c d (entry.Version x) new (after r c (entry.Version x)) (shelf_by c k (entry.Version x))) t m.3
      (version_by c d t.epoch t.number s m.0 m.1 (as_reduce (λ (x : TaskId). at c x ≡ some place.Away) t m.3 m.2) k held (as_reduce (BringsVersion (job.course d.cuts)) t m.3 right) c.front.stop refl old new moves)

  pub missed_follows : (old new : History) (c : Core) (d : Desk) (k : Shelf) (t : TaskId) → Shows job r next terms c d → ShowsShelf c k d → May r c (entry.Missed t) → IsRight job next d.cuts (entry.Missed t) → Moves job r c d.cuts (entry.Missed t) old new
      → Follows told job r next terms old c d (entry.Missed t) new (after r c (entry.Missed t)) k
  missed_follows old new c d k t s held m right moves =
      of_reduce (λ (x : TaskId). Follows told job r next terms old c d (entry.Missed x) new (after r c (entry.Missed x)) k) t m.3
      (missed_by c d t.epoch t.number s m.0 m.1 (as_reduce (λ (x : TaskId). at c x ≡ some place.Away) t m.3 m.2) k held (as_reduce (BringsVersion (job.course d.cuts)) t m.3 right) old new m.4 moves)
