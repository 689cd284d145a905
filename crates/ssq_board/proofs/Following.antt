-- Entries that came are legal events of the machine.
use Rattle.std.proofs.Common.{◌≡◌, ◌⊎◌, ◌+◌, ◌-◌, arith, ◌&&◌, ◌++◌, ℕ, Bool, true, false, true≢false, List, [], ◌∷◌, set, Option, Some, None, sym, refl, ap, ◌∙◌, subst, inl, inr, le-ltb, lt-ltb}
use Rattle.std.specs.List.{list_all}
use mathlib.Core.Option.{some, some-ne-none}
use Rattle.ssq_outside.specs.declared.gate.TaskId.{TaskId}
use Rattle.ssq_outside.specs.declared.gate.Kind.{Kind}
use Rattle.ssq_outside.specs.declared.gate.Kind.TheVariants as kind
use Rattle.ssq_outside.specs.History.{History, had_now}
use Rattle.ssq_core.specs.declared.event.Event.{Event}
use Rattle.ssq_core.specs.declared.event.Event.TheVariants as event
use Rattle.ssq_core.specs.Course.{Cuts, Job}
use Rattle.ssq_core.specs.Machine.{Desk, placed, seals, result_of, Change, nothing, misses, publishes, removes, syncs, Allows, Leaves, IsMarked, MayOn, MayFail, ComesBack, OwesNone}
use Rattle.ssq_core.specs.Machine as machine
use Rattle.ssq_board.specs.declared.front.Cause.{Cause}
use Rattle.ssq_board.specs.declared.front.Place.TheVariants as place
use Rattle.ssq_board.specs.declared.front.Entry.{Entry}
use Rattle.ssq_board.specs.declared.front.Entry.TheVariants as entry
use Rattle.ssq_board.specs.Core.{Scope, Core, fails_apart, fault_at, is_fine, is_open, is_stopped, is_of_epoch, may_start, at, moved, with_front, tasks_of, due, or_stop, stops, stopped_front, May, after, events_of, events_all, cuts_by}
use Rattle.ssq_board.specs.Core as board
use Rattle.ssq_board.specs.Shown.{IsSound}
use Rattle.ssq_board.specs.Follows.{Terms, State, Leads, change_of, Moves, IsOwnBy, IsOwn, BringsNone, IsRight, ShowsAt, Shows, Shelves, ShowsShelf, life_of, shown}
use Rattle.ssq_board.specs.Shelf.{Shelf, last_before, last_of, acknowledged_in, MayKeep, shelf_by}
use Rattle.ssq_board.proofs.Keeping.{shelves_placed, shelves_stopped, shelves_plan, shelves_out, shelves_sync, shelves_commit, open_last, settled_last, closed_last, acknowledged_few, or_stop_none, no_upkeep}
use Rattle.ssq_board.proofs.Upkeeping.{upkeep_follows, snapshot_follows, unmade_follows, untaken_follows, drop_follows, undropped_follows}
use Rattle.ssq_board.proofs.Sounds.{step_sound, due_none, outside_due, some_no}
use Rattle.ssq_board.proofs.Placing.{placed_at, placed_twice, HasBrought, placed_shows, stopped_shows, maps_back, reduces_back, deltas_there, runs}
use Rattle.ssq_board.proofs.Planning.{runs_on, goes_on, out_desk, out_may_on, out_shows, sync_may_on, sync_shows, commit_desk, commit_may_on, commit_shows, plan_desk, plan_may_on, plan_shows}
use Rattle.ssq_board.proofs.Leading.{elapses_same, owes_none, not_over, leads_more, went, tried, out_not_done, waits_back, out_failed, out_back, back_failed, report_stops, due_why, Follows}
use Rattle.ssq_board.proofs.Versions.{version_follows, missed_follows}

module _ (told : Type 0) (job : Job) (r : Scope) (next : Cuts → ℕ → Bool) (terms : Terms job r next) where
  abbrev From : History → Core → Desk → Entry → History → Core → Shelf → Type 0
  From = Follows told job r next terms

  fresh_of : (c : Core) (k : Kind) → may_start c k ≡ true → c.front.fresh ≡ true
  fresh_of c kind.Map h = h
  fresh_of c kind.Reduce h = first c.front.fresh (list_all is_fine c.maps) h
    where
      first : (a b : Bool) → (a && b) ≡ true → a ≡ true
      first true b h = refl
      first false b h = h
  fresh_of c kind.Out h = first c.front.fresh (list_all is_fine c.maps && list_all is_fine c.reduces) h
    where
      first : (a b : Bool) → (a && b) ≡ true → a ≡ true
      first true b h = refl
      first false b h = h
  fresh_of c kind.Upkeep h = absurd (true≢false (sym h))

  away_back : place.Away ≡ place.Back None → ⊥
  away_back e = cc

  second : (a b : Bool) → (a && b) ≡ true → b ≡ true
  second true b h = h
  second false b h = absurd (true≢false (sym h))

  first_of : (a b : Bool) → (a && b) ≡ true → a ≡ true
  first_of true b h = refl
  first_of false b h = h

  pub claim_follows : (disk : History) (c : Core) (d : Desk) (k : Shelf) (t : TaskId) → IsSound r c → Shows job r next terms c d → ShowsShelf c k d → May r c (entry.Claim t) → From disk c d (entry.Claim t) disk (after r c (entry.Claim t)) k
  claim_follows disk c d k t sound s held m = (
    placed t machine.out d,
    (
      shown disk (after r c (entry.Claim t)) (placed t machine.out d),
      (
        nothing,
        Some (placed t machine.out d),
        (d, placed t machine.out d, refl, refl, (goes_on job r next terms c d sound s m.0, (waiting.0, waiting.1, by t.kind m.3), refl, refl)),
        (λ t. (elapses_same disk (Allows nothing (had_now disk)), refl, tt)),
        refl,
      ),
      refl,
    ),
    refl,
    placed_shows job r next terms c d t place.Waits place.Away machine.out c.front.stop m.1 m.2 fresh m.4 (out_not_done (job.course d.cuts) t (d.tasks t) machine.waits waiting.1 waits_back) refl has (λ run. (run, out_failed)) s,
    shelves_placed (last_of c) c.front.committed c.front.stop c.front.stop k d t machine.out (no_upkeep c t place.Waits m.4) (λ run. run) held,
  )
    where
      fresh : c.front.fresh ≡ true
      fresh = fresh_of c t.kind m.3

      has : HasBrought (job.course d.cuts) c d t place.Away c.front.stop
      has = record {
        own = λ i same back. absurd (away_back back);
        all = λ same. deltas_there job r next terms c d sound s m.1 m.0
            (second (list_all is_fine c.maps) (list_all is_fine c.reduces) (second c.front.fresh (list_all is_fine c.maps && list_all is_fine c.reduces) (ap (λ (x : TaskId). may_start c x.kind) same ∙ m.3)));
      }

      waiting : ((job.course d.cuts).is_task t ≡ true) × (d.tasks t ≡ machine.waits)
      waiting = s.tasks m.1 t place.Waits m.2 m.4

      by : (k : Kind) → may_start c k ≡ true → machine.MayClaimBy (job.course d.cuts) d t k
      by kind.Map h = runs job r next terms c d t.epoch sound s m.1 fresh m.2
      by kind.Reduce h = (
        runs job r next terms c d t.epoch sound s m.1 fresh m.2,
        subst (λ (e : ℕ). machine.AreBack (job.course d.cuts) e kind.Map d.tasks) (sym m.2) (maps_back job r next terms c d s m.1 (second c.front.fresh (list_all is_fine c.maps) h)),
      )
      by kind.Out h = let both = second c.front.fresh (list_all is_fine c.maps && list_all is_fine c.reduces) h in (
        runs job r next terms c d t.epoch sound s m.1 fresh m.2,
        subst (λ (e : ℕ). machine.AreBack (job.course d.cuts) e kind.Map d.tasks) (sym m.2) (maps_back job r next terms c d s m.1 (first_of (list_all is_fine c.maps) (list_all is_fine c.reduces) both)),
        subst (λ (e : ℕ). machine.AreBack (job.course d.cuts) e kind.Reduce d.tasks) (sym m.2) (reduces_back job r next terms c d sound s m.1 (second (list_all is_fine c.maps) (list_all is_fine c.reduces) both)),
      )
      by kind.Upkeep h = absurd (true≢false (sym h))

  -- where a task failed, its cause is one of the outside
  abbrev FailedBy : machine.Place → Option Cause → Type 0
  FailedBy there f = there ≡ machine.failed → (g : Cause) × (f ≡ Some g) × (is_of_epoch g ≡ false)

  out_reduce : {A : Type 0} → kind.Out ≡ kind.Reduce → A
  out_reduce e = absurd (cc)

  -- The report itself: where the task is then, and that its place shows it.
  abbrev ReportLeads : History → Core → Desk → TaskId → Option Cause → Type 0
  ReportLeads disk c d t f = (there : machine.Place) × ShowsAt (job.course d.cuts) t there (place.Back f) × FailedBy there f
      × machine.Leads told job (shown disk c d) (board.seals t.kind t f ++ event.Report t ∷ []) (record { disk = disk; desk = Some (placed t there d); life = life_of c.front.stop })

  -- a report that touches the place alone
  one_report : (disk : History) (c : Core) (d : Desk) (t : TaskId) (there : machine.Place) → MayOn job d (life_of c.front.stop) (event.Report t) nothing (placed t there d)
      → machine.Leads told job (shown disk c d) (event.Report t ∷ []) (record { disk = disk; desk = Some (placed t there d); life = life_of c.front.stop })
  one_report disk c d t there may = (
    record { disk = disk; desk = Some (placed t there d); life = life_of c.front.stop },
    (nothing, Some (placed t there d), (d, placed t there d, refl, refl, may), (λ t. (elapses_same disk (Allows nothing (had_now disk)), refl, tt)), refl),
    refl,
  )

  not_sealed : (k : Kind) (t : TaskId) (g : Cause) → board.seals k t (Some g) ≡ []
  not_sealed kind.Map t g = refl
  not_sealed kind.Reduce t g = refl
  not_sealed kind.Out t g = refl
  not_sealed kind.Upkeep t g = refl

  fault_leads : (disk : History) (c : Core) (d : Desk) (t : TaskId) (g : Cause) → d.tasks t ≡ machine.out → IsOwn (job.course d.cuts) t (Some g) → ReportLeads disk c d t (Some g)
  fault_leads disk c d t g out own = by (is_of_epoch g) refl own
    where
      leads : (there : machine.Place) → FailedBy there (Some g) → MayOn job d (life_of c.front.stop) (event.Report t) nothing (placed t there d) → ReportLeads disk c d t (Some g)
      leads there why may = (
        there,
        tt,
        why,
        subst (λ (l : List Event). machine.Leads told job (shown disk c d) (l ++ event.Report t ∷ []) (record { disk = disk; desk = Some (placed t there d); life = life_of c.front.stop }))
            (sym (not_sealed t.kind t g)) (one_report disk c d t there may),
      )

      by : (b : Bool) → is_of_epoch g ≡ b → IsOwnBy ((job.course d.cuts).is_fault t) b → ReportLeads disk c d t (Some g)
      by false is h = leads machine.failed (λ e. (g, refl, is)) (inl (out, refl, refl, owes_none c.front.stop))
      by true is fault = leads (machine.back ((job.course d.cuts).is_fault t) None) (λ e. back_failed e) (inr (None, inl (out, refl, inl fault), inl (refl, refl, owes_none c.front.stop, inr (λ k h. refl))))

  fine_leads : (disk : History) (c : Core) (d : Desk) (k : Kind) (e i : ℕ) → at c (record { epoch = e; kind = k; number = i }) ≡ some place.Away → d.tasks (record { epoch = e; kind = k; number = i }) ≡ machine.out
      → (job.course d.cuts).is_fault (record { epoch = e; kind = k; number = i }) ≡ false → BringsNone (job.course d.cuts) (record { epoch = e; kind = k; number = i }) None → ReportLeads disk c d (record { epoch = e; kind = k; number = i }) None
  fine_leads disk c d kind.Map e i here out own bare =
      let t : TaskId = record { epoch = e; kind = kind.Map; number = i } in (
        machine.back ((job.course d.cuts).is_fault t) None,
        record { bytes = None; is = ap (λ (b : Bool). machine.back b None) own; has = λ h. absurd (true≢false (sym h)) },
        (λ e. back_failed e),
        one_report disk c d t (machine.back ((job.course d.cuts).is_fault t) None) (inr (None, inl (out, refl, inr refl), inl (refl, refl, owes_none c.front.stop, inr (λ k h. refl)))),
      )
  fine_leads disk c d kind.Reduce e i here out own bare =
      let t : TaskId = record { epoch = e; kind = kind.Reduce; number = i } in (
        machine.back ((job.course d.cuts).is_fault t) None,
        record { bytes = None; is = ap (λ (b : Bool). machine.back b None) own; has = λ h. absurd (true≢false (sym h ∙ bare)) },
        (λ e. back_failed e),
        one_report disk c d t (machine.back ((job.course d.cuts).is_fault t) None) (inr (None, inl (out, refl, inr bare), inl (refl, refl, owes_none c.front.stop, inr (λ k h. refl)))),
      )
  fine_leads disk c d kind.Out e i here out own bare =
      let t : TaskId = record { epoch = e; kind = kind.Out; number = i } in
      let rows = (job.course d.cuts).rows e in
      let sealed_desk = placed t (machine.sealed rows) d in
      let there = machine.back ((job.course d.cuts).is_fault t) (Some rows) in (
        there,
        record { bytes = Some rows; is = ap (λ (b : Bool). machine.back b (Some rows)) own; has = λ h. refl },
        (λ e. back_failed e),
        (
          record { disk = disk; desk = Some sealed_desk; life = life_of c.front.stop },
          (nothing, Some sealed_desk, (d, sealed_desk, refl, refl, (rows, out, (refl, refl), refl, owes_none c.front.stop)), (λ t. (elapses_same disk (Allows nothing (had_now disk)), refl, tt)), refl),
          (
            record { disk = disk; desk = Some (placed t there d); life = life_of c.front.stop },
            (
              nothing,
              Some (placed t there d),
              (sealed_desk, placed t there d, refl, refl, inr (Some rows, inr (rows, placed_at t (machine.sealed rows) d, refl), inl (refl, sym (placed_twice t (machine.sealed rows) there d), owes_none c.front.stop, inr (λ k h. out_reduce k)))),
              (λ t. (elapses_same disk (Allows nothing (had_now disk)), refl, tt)),
              refl,
            ),
            refl,
          ),
        ),
      )
  fine_leads disk c d kind.Upkeep e i here out own bare = absurd (some-ne-none place.Away (sym here))

  report_leads : (disk : History) (c : Core) (d : Desk) (t : TaskId) (f : Option Cause) → at c t ≡ some place.Away → d.tasks t ≡ machine.out → IsOwn (job.course d.cuts) t f → BringsNone (job.course d.cuts) t f → ReportLeads disk c d t f
  report_leads disk c d t (Some g) here out own bare = fault_leads disk c d t g out own
  report_leads disk c d t None here out own bare = fine_leads disk c d t.kind t.epoch t.number here out own bare

  back_is : (f g : Option Cause) → place.Back f ≡ place.Back g → f ≡ g
  back_is f g e = ap fault_at e

  more_of : (a : List Event) (e : Event) (b : List Event) → (a ++ e ∷ []) ++ b ≡ a ++ (e ∷ b)
  more_of [] e b = refl
  more_of (x ∷ xs) e b = ap (λ (l : List Event). x ∷ l) (more_of xs e b)

  pub report_follows : (disk : History) (c : Core) (d : Desk) (k : Shelf) (t : TaskId) (f : Option Cause) → Shows job r next terms c d → ShowsShelf c k d → May r c (entry.Report t f) → IsRight job next d.cuts (entry.Report t f)
      → From disk c d (entry.Report t f) disk (after r c (entry.Report t f)) k
  report_follows disk c d k t f s held m right =
      let out : d.tasks t ≡ machine.out = s.tasks m.0 t place.Away m.1 m.2 in
      let l = report_leads disk c d t f m.2 out right.0 right.1 in
      let fresh : c.front.fresh ≡ true = elim (s.claimed t m.1) [ inl waits ↦ absurd (out_waits (sym out ∙ waits)) | inr h ↦ h ] in (
        placed t l.0 d,
        subst (λ (es : List Event). machine.Leads told job (shown disk c d) es (shown disk (after r c (entry.Report t f)) (placed t l.0 d))) (more_of (board.seals t.kind t f) (event.Report t) (stops (due c t f)))
            (report_stops told job (shown disk c d) disk c (placed t l.0 d) (board.seals t.kind t f ++ event.Report t ∷ []) (due c t f) (due_why c t f) l.3),
        refl,
        placed_shows job r next terms c d t place.Away (place.Back f) l.0 (or_stop c.front.stop (due c t f)) m.0 m.1 fresh m.2 (out_not_done (job.course d.cuts) t (d.tasks t) machine.out out out_back) l.1 (has out)
            (λ run. (let n = due_none c t f run in (
              n.0,
              λ e. (let w = l.2 e in
                  outside_due (tasks_of t.kind c) t.number w.0 place.Away m.2 w.2 (ap (λ (x : Option Cause). board.due_stop (set (tasks_of t.kind c) t.number (place.Back x))) (sym w.1) ∙ n.1)),
            ))) s,
        shelves_placed (last_of c) c.front.committed c.front.stop (or_stop c.front.stop (due c t f)) k d t l.0 (no_upkeep c t place.Away m.2) (or_stop_none c.front.stop (due c t f)) held,
      )
    where
      out_waits : machine.out ≡ machine.waits → ⊥
      out_waits e = cc

      -- it brings no version; and where it is the out task, all deltas are there since it went out
      has : d.tasks t ≡ machine.out → HasBrought (job.course d.cuts) c d t (place.Back f) (or_stop c.front.stop (due c t f))
      has out = record {
        own = λ i same back run less. absurd (true≢false (sym (lt-ltb i (job.course d.cuts).keeping less)
            ∙ subst (λ (x : TaskId). BringsNone (job.course d.cuts) x None) (sym same) (subst (BringsNone (job.course d.cuts) t) (back_is f None back) right.1)));
        all = λ same. elim (s.reduced m.0) [ inl waits ↦ absurd (out_waits (sym out ∙ sym (ap d.tasks same) ∙ waits)) | inr all ↦ all ];
      }

  -- what a call that failed may have tried is what the machine lets fail
  tried_fails : (disk : History) (c : Core) (d : Desk) (change : Change) → IsSound r c → Shows job r next terms c d → (e : Entry) → May r c e → fails_apart e ≡ false → change ≡ change_of job c (cuts_by r d.cuts c e) e
      → (change ≡ nothing) ⊎ MayFail job (shown disk c d) change
  tried_fails disk c d change sound s (entry.Plan e) m other is =
      let n = plan_desk job r next terms c d sound s e in
      inr (inl (event.Plan e, Some n, subst (λ (x : Change). machine.May job (shown disk c d) (event.Plan e) x (Some n)) (sym is) (d, n, refl, refl, plan_may_on job r next terms c d sound s e m)))
  tried_fails disk c d change sound s (entry.Claim t) m other is = inl is
  tried_fails disk c d change sound s (entry.Report t f) m other is = inl is
  tried_fails disk c d change sound s (entry.Version t) m other is = absurd (true≢false other)
  tried_fails disk c d change sound s (entry.Missed t) m other is = absurd (true≢false other)
  tried_fails disk c d change sound s (entry.OutFile e) m other is =
      let n = out_desk job r next terms c d sound s e in
      inr (inl (event.OutFile e, Some n, subst (λ (x : Change). machine.May job (shown disk c d) (event.OutFile e) x (Some n)) (sym is) (d, n, refl, refl, out_may_on job r next terms c d sound s e m)))
  tried_fails disk c d change sound s (entry.Sync clock) m other is =
      let n = machine.with_sync d in
      inr (inl (event.Sync clock, Some n, subst (λ (x : Change). machine.May job (shown disk c d) (event.Sync clock) x (Some n)) (sym is) (d, n, refl, refl, sync_may_on job r next terms c d sound s clock m)))
  tried_fails disk c d change sound s (entry.Commit e b) m other is =
      let n = commit_desk job r next terms c d sound s e in
      inr (inl (event.Commit e, Some n, subst (λ (x : Change). machine.May job (shown disk c d) (event.Commit e) x (Some n)) (sym is) (d, n, refl, refl, commit_may_on job r next terms c d sound s e b m)))
  tried_fails disk c d change sound s (entry.Upkeep p v) m other is = inl is
  tried_fails disk c d change sound s (entry.Snapshot p v) m other is = absurd (true≢false other)
  tried_fails disk c d change sound s (entry.Unmade p v f) m other is = absurd (true≢false other)
  tried_fails disk c d change sound s (entry.Untaken p v) m other is = absurd (true≢false other)
  tried_fails disk c d change sound s (entry.Drop q) m other is = absurd (true≢false other)
  tried_fails disk c d change sound s (entry.Undropped q) m other is = absurd (true≢false other)
  tried_fails disk c d change sound s (entry.Stop f) m other is = inl is

  pub stop_follows : (old new : History) (c : Core) (d : Desk) (k : Shelf) (f : Cause) → IsSound r c → Shows job r next terms c d → ShowsShelf c k d → May r c (entry.Stop f) → Moves job r c d.cuts (entry.Stop f) old new
      → From old c d (entry.Stop f) new (after r c (entry.Stop f)) k
  stop_follows old new c d k f sound s held m moves = (
    d,
    (
      shown new (after r c (entry.Stop f)) d,
      (
        moves.0,
        not_over c.front.stop m.0,
        elim moves.1 [ inl none ↦ inl none | inr x ↦ tried_fails old c d moves.0 sound s x.0 x.1 x.2 x.3 ],
        (λ t. tried moves.0 old new moves.2),
        refl,
      ),
      refl,
    ),
    refl,
    stopped_shows job r next terms c d f s,
    shelves_stopped (last_of c) c.front.committed c.front.stop (Some f) k d (λ none. absurd (some_no f none)) held,
  )

  pub plan_follows : (old new : History) (c : Core) (d : Desk) (k : Shelf) (e : ℕ) → IsSound r c → Shows job r next terms c d → ShowsShelf c k d → May r c (entry.Plan e) → Moves job r c d.cuts (entry.Plan e) old new
      → From old c d (entry.Plan e) new (after r c (entry.Plan e)) k
  plan_follows old new c d k e sound s held m moves =
      let n = plan_desk job r next terms c d sound s e in (
        n,
        (
          shown new (after r c (entry.Plan e)) n,
          (
            change_of job c (cuts_by r d.cuts c (entry.Plan e)) (entry.Plan e),
            Some n,
            (d, n, refl, refl, plan_may_on job r next terms c d sound s e m),
            (λ t. (let w = went (change_of job c (cuts_by r d.cuts c (entry.Plan e)) (entry.Plan e)) old new moves in (w.0, w.1, tt))),
            (λ i. record { disk = new; desk = Some n; life = sym (runs_on c m.0) i }),
          ),
          refl,
        ),
        refl,
        plan_shows job r next terms c d sound s e m,
        subst (λ (l : Option ℕ). Shelves l c.front.committed None k n) (settled_last c m.3 ∙ sym (open_last (after r c (entry.Plan e)) (lt-ltb c.front.committed (c.front.planned + 1) (let b = sound.before in omega arith))))
            (shelves_plan (last_of c) c.front.committed e c.front.stop None k d (cuts_by r d.cuts c (entry.Plan e)) (λ none. m.0) held),
      )

  pub out_follows : (old new : History) (c : Core) (d : Desk) (k : Shelf) (e : ℕ) → IsSound r c → Shows job r next terms c d → ShowsShelf c k d → May r c (entry.OutFile e) → Moves job r c d.cuts (entry.OutFile e) old new
      → From old c d (entry.OutFile e) new (after r c (entry.OutFile e)) k
  out_follows old new c d k e sound s held m moves =
      let n = out_desk job r next terms c d sound s e in (
        n,
        (
          shown new (after r c (entry.OutFile e)) n,
          (
            change_of job c d.cuts (entry.OutFile e),
            Some n,
            (d, n, refl, refl, out_may_on job r next terms c d sound s e m),
            (λ t. (let w = went (change_of job c d.cuts (entry.OutFile e)) old new moves in (w.0, w.1, tt))),
            (λ i. record { disk = new; desk = Some n; life = sym (runs_on c m.0) i }),
          ),
          refl,
        ),
        refl,
        out_shows job r next terms c d sound s e m,
        subst (λ (l : Option ℕ). Shelves l c.front.committed None k n) (open_last c m.2 ∙ sym (open_last (after r c (entry.OutFile e)) m.2))
            (shelves_stopped (last_of c) c.front.committed c.front.stop None k n (λ none. m.0) (shelves_out (last_of c) c.front.committed e c.front.stop k d held)),
      )

  pub sync_follows : (old new : History) (c : Core) (d : Desk) (k : Shelf) (clock : ℕ) → IsSound r c → Shows job r next terms c d → ShowsShelf c k d → May r c (entry.Sync clock) → Moves job r c d.cuts (entry.Sync clock) old new
      → From old c d (entry.Sync clock) new (after r c (entry.Sync clock)) (shelf_by c k (entry.Sync clock))
  sync_follows old new c d k clock sound s held m moves =
      let n = machine.with_sync d in (
        n,
        (
          shown new (after r c (entry.Sync clock)) n,
          (
            syncs,
            Some n,
            (d, n, refl, refl, sync_may_on job r next terms c d sound s clock m),
            (λ t. (moves.0.0, moves.0.1, moves.1)),
            (λ i. record { disk = new; desk = Some n; life = sym (runs_on c m) i }),
          ),
          refl,
        ),
        refl,
        sync_shows job r next terms c d sound s clock m,
        subst (λ (l : Option ℕ). Shelves l c.front.committed None (shelf_by c k (entry.Sync clock)) n) (sym (settled_last (after r c (entry.Sync clock)) refl))
            (shelves_sync (acknowledged_in c) c.front.committed c.front.stop None k d (acknowledged_few c) s.commits (λ none. m) held),
      )

  pub commit_follows : (old new : History) (c : Core) (d : Desk) (k : Shelf) (e : ℕ) (b : Bool) → IsSound r c → Shows job r next terms c d → ShowsShelf c k d → May r c (entry.Commit e b) → Moves job r c d.cuts (entry.Commit e b) old new
      → b ≡ next d.cuts (e + 1) → From old c d (entry.Commit e b) new (after r c (entry.Commit e b)) k
  commit_follows old new c d k e b sound s held m moves right =
      let n = commit_desk job r next terms c d sound s e in (
        n,
        (
          shown new (after r c (entry.Commit e b)) n,
          (
            change_of job c d.cuts (entry.Commit e b),
            Some n,
            (d, n, refl, refl, commit_may_on job r next terms c d sound s e b m),
            (λ t. (let w = went (change_of job c d.cuts (entry.Commit e b)) old new moves in (w.0, w.1, tt))),
            (λ i. record { disk = new; desk = Some n; life = sym (runs_on c m.0) i }),
          ),
          refl,
        ),
        refl,
        commit_shows job r next terms c d sound s e b m right,
        subst (λ (l : Option ℕ). Shelves l (c.front.committed + 1) None k n)
            (open_last c m.2 ∙ ap last_before one_less ∙ sym (closed_last (after r c (entry.Commit e b)) (le-ltb (c.front.committed + 1) c.front.planned sound.near) refl))
            (shelves_commit (last_of c) c.front.committed e c.front.stop None k d m.1 (λ none. m.0) held),
      )
    where
      one_less : c.front.committed ≡ c.front.committed + 1 - 1
      one_less = omega arith

  -- each entry
  pub entry_follows : (old new : History) (c : Core) (d : Desk) (k : Shelf) (e : Entry) → IsSound r c → Shows job r next terms c d → ShowsShelf c k d → May r c e → MayKeep r c k e → Moves job r c d.cuts e old new → IsRight job next d.cuts e
      → From old c d e new (after r c e) (shelf_by c k e)
  entry_follows old new c d k (entry.Plan e) sound s held m keeps moves right = plan_follows old new c d k e sound s held m moves
  entry_follows old new c d k (entry.Claim t) sound s held m keeps moves right = subst (λ (h : History). From old c d (entry.Claim t) h (after r c (entry.Claim t)) k) (sym moves) (claim_follows old c d k t sound s held m)
  entry_follows old new c d k (entry.Report t f) sound s held m keeps moves right = subst (λ (h : History). From old c d (entry.Report t f) h (after r c (entry.Report t f)) k) (sym moves) (report_follows old c d k t f s held m right)
  entry_follows old new c d k (entry.Version t) sound s held m keeps moves right = version_follows told job r next terms old new c d k t s held m right moves
  entry_follows old new c d k (entry.Missed t) sound s held m keeps moves right = missed_follows told job r next terms old new c d k t s held m right moves
  entry_follows old new c d k (entry.OutFile e) sound s held m keeps moves right = out_follows old new c d k e sound s held m moves
  entry_follows old new c d k (entry.Sync clock) sound s held m keeps moves right = sync_follows old new c d k clock sound s held m moves
  entry_follows old new c d k (entry.Commit e b) sound s held m keeps moves right = commit_follows old new c d k e b sound s held m moves right
  entry_follows old new c d k (entry.Upkeep p v) sound s held m keeps moves right =
      subst (λ (h : History). From old c d (entry.Upkeep p v) h c (shelf_by c k (entry.Upkeep p v))) (sym moves) (upkeep_follows told job r next terms old c d k p v sound s held m keeps right)
  entry_follows old new c d k (entry.Snapshot p v) sound s held m keeps moves right = snapshot_follows told job r next terms old new c d k p v s held keeps moves
  entry_follows old new c d k (entry.Unmade p v f) sound s held m keeps moves right =
      subst (λ (h : History). From old c d (entry.Unmade p v f) h (after r c (entry.Unmade p v f)) (shelf_by c k (entry.Unmade p v f))) (sym moves) (unmade_follows told job r next terms old c d k p v f s held keeps)
  entry_follows old new c d k (entry.Untaken p v) sound s held m keeps moves right = untaken_follows told job r next terms old new c d k p v s held m keeps moves
  entry_follows old new c d k (entry.Drop q) sound s held m keeps moves right = drop_follows told job r next terms old new c d k q sound s held m keeps moves
  entry_follows old new c d k (entry.Undropped q) sound s held m keeps moves right = undropped_follows told job r next terms old new c d k q sound s held m keeps moves
  entry_follows old new c d k (entry.Stop f) sound s held m keeps moves right = stop_follows old new c d k f sound s held m moves

  -- each list of entries
  pub list_follows : told → (es : List Entry) (s n : State) (d : Desk) → IsSound r s.core → d.cuts ≡ s.cuts → Shows job r next terms s.core d → ShowsShelf s.core s.shelf d → Leads told job r next s es n
      → (d' : Desk) × machine.Leads told job (shown s.disk s.core d) (events_all r s.core es) (shown n.disk n.core d') × (d'.cuts ≡ n.cuts) × Shows job r next terms n.core d' × ShowsShelf n.core n.shelf d'
  list_follows t [] s n d sound cuts shows held l =
      subst (λ (x : State). (d' : Desk) × machine.Leads told job (shown s.disk s.core d) [] (shown x.disk x.core d') × (d'.cuts ≡ x.cuts) × Shows job r next terms x.core d' × ShowsShelf x.core x.shelf d') l (d, refl, cuts, shows, held)
  list_follows t (e ∷ es) s n d sound cuts shows held l =
      let mid = l.0 in
      let st = l.1 in
      let f = entry_follows s.disk mid.disk s.core d s.shelf e sound shows held st.may st.keeps (subst (λ (x : Cuts). Moves job r s.core x e s.disk mid.disk) (sym cuts) (st.moves t)) (subst (λ (x : Cuts). IsRight job next x e) (sym cuts) (st.right t)) in
      let is : after r s.core e ≡ mid.core = sym st.core in
      let kept : ShowsShelf mid.core mid.shelf f.0 = subst (λ (x : Shelf). ShowsShelf mid.core x f.0) (sym st.shelf) (subst (λ (x : Core). ShowsShelf x (shelf_by s.core s.shelf e) f.0) is f.4) in
      let more = list_follows t es mid n f.0 (subst (IsSound r) is (step_sound r s.core e st.may sound)) (f.2 ∙ ap (λ (x : Cuts). cuts_by r x s.core e) cuts ∙ sym st.cuts)
      (subst (λ (x : Core). Shows job r next terms x f.0) is f.3) kept l.2 in (
        more.0,
        leads_more told job (shown s.disk s.core d) (events_of s.core e) (shown mid.disk mid.core f.0) (events_all r (after r s.core e) es) (shown n.disk n.core more.0)
            (subst (λ (x : Core). machine.Leads told job (shown s.disk s.core d) (events_of s.core e) (shown mid.disk x f.0)) is f.1)
            (subst (λ (x : Core). machine.Leads told job (shown mid.disk mid.core f.0) (events_all r x es) (shown n.disk n.core more.0)) st.core more.1),
        more.2,
        more.3,
        more.4,
      )
