-- The example runs.
use Rattle.std.proofs.Common.{◌≡◌, ◌+◌, ◌==◌, [], ◌∷◌, ℕ, List, Bool, true, false, Option, Some, None, refl, ap, sym, ◌∙◌, subst, inl, inr, arith, nat_lt}
use Rattle.std.specs.Prelude.{is_some, if◌then◌else◌, ⊤}
use Rattle.std.proofs.lemmas.Bool.{ltb-true, le-ltb, eqb-true}
use Rattle.ssq_outside.specs.declared.name.Name.{Name}
use Rattle.ssq_outside.specs.declared.name.Name.TheVariants as name
use Rattle.ssq_outside.specs.declared.gate.TaskId.{TaskId}
use Rattle.ssq_outside.specs.declared.gate.Kind.{Kind}
use Rattle.ssq_outside.specs.declared.gate.Kind.TheVariants as kind
use Rattle.ssq_outside.specs.Files.{Content, Files, Had, MayBe, same_name, files_of, added, removed, settled_at}
use Rattle.ssq_outside.specs.History.{History, had_now, files_now, Elapses}
use Rattle.ssq_outside.proofs.Steps.{files_are_image, newest_changed}
use Rattle.ssq_plans.specs.declared.meta.Meta.{Meta}
use Rattle.ssq_core.specs.declared.event.Event.{Event}
use Rattle.ssq_core.specs.declared.event.Event.TheVariants as event
use Rattle.ssq_core.specs.Course.{truth, Cuts, IsCausal}
use Rattle.ssq_core.specs.Standing.{IsThere, StandsAt, is_needed, is_allowed}
use Rattle.ssq_core.specs.Staying.{IsNoOther}
use Rattle.ssq_core.specs.Machine.{Place, waits, out, sealed, back, failed, Desk, Life, running, life_after, State, Change, nothing, misses, publishes, removes, syncs, Allows, Leaves, IsMarked, GoesOn, IsRunning, IsBack, AreBack, reduce, out_task, same_task, placed, with_file, with_plan, with_commit, with_sync, with_store, opened, May, Leads}
use Rattle.ssq_core.specs.Sound.{IsSure, IsSoundAt}
use Rattle.ssq_core.specs.Example.{example_course, example_job, map_task, ExampleRuns}
use Rattle.ssq_core.proofs.Hads.{settled_may}
use Rattle.ssq_core.proofs.Holding.{lt_true}
use Rattle.ssq_core.proofs.Moves.{IsEvent, moves_on, open_sound}
use Rattle.ssq_core.proofs.Opening.{sound_stands, can_open}
use Rattle.ssq_core.proofs.Claims.{one_more}

pub causal : (meta : Meta) → IsCausal (example_job meta)
causal meta = record {
  agrees = λ one other n same. record {
    meta = refl;
    keeping = refl;
    ends = λ e less. refl;
    watermark = λ e less. refl;
    seen = λ e less. refl;
    is_faulty = λ e less. refl;
    rows = λ e less. refl;
    state = λ p v le. refl;
    delta = λ p v less. refl;
    is_task = λ t less. refl;
    is_fault = λ t less. refl;
  };
  follows = λ one other n e same less next. refl;
  faults = λ cuts e quiet. refl;
  reduces = λ cuts e p less. (let is : p ≡ 0 = omega (arith, less) in ap (λ m. m == 0) is);
}

-- a moment later, with these contents
abbrev next_moment : Had → History → History
next_moment had h = record { moment = h.moment + 1; had_at = λ k. if nat_lt h.moment k then had else h.had_at k }

had_next : (had : Had) (h : History) → had_now (next_moment had h) ≡ had
had_next had h = ap (λ (b : Bool). if b then had else h.had_at (h.moment + 1)) (lt_true h.moment (h.moment + 1) (omega arith))

elapses_next : (had : Had) (h : History) (IsAllowed : Had → Type 0) → IsAllowed had → Elapses h (next_moment had h) IsAllowed
elapses_next had h IsAllowed is = record {
  later = omega arith;
  kept = λ k le. ap (λ (b : Bool). if b then had else h.had_at k) (le-ltb h.moment k le);
  fresh = λ k from to. subst IsAllowed (sym (ap (λ (b : Bool). if b then had else h.had_at k) (lt_true h.moment k from))) is;
}

-- what a change leaves
abbrev left_by : Change → Had → Had
left_by nothing had = had
left_by (misses t) had = had
left_by (publishes q bytes) had = added q bytes had
left_by (removes q) had = removed q had
left_by syncs had = settled_at (files_of had)

left_is : (change : Change) (had : Had) → Leaves change had (left_by change had)
left_is nothing had = refl
left_is (misses t) had = refl
left_is (publishes q bytes) had = refl
left_is (removes q) had = refl
left_is syncs had = refl

left_allowed : (change : Change) (had : Had) → Allows change had (left_by change had)
left_allowed nothing had = refl
left_allowed (misses t) had = refl
left_allowed (publishes q bytes) had = refl
left_allowed (removes q) had = refl
left_allowed syncs had = record {
  same = λ q. refl;
  fewer = λ q c may. subst (λ (x : Content). MayBe (had q) x) (sym (settled_may (files_of had) q c may)) (files_are_image had q);
}

abbrev next : Change → History → History
next change h = next_moment (left_by change (had_now h)) h

abbrev state : History → Option Desk → State
state h desk = record { disk = h; desk = desk; life = running }

-- an event comes
comes : (tells : Type 0) (meta : Meta) (h : History) (desk : Option Desk) (e : Event) (change : Change) (n : Option Desk) → May (example_job meta) (state h desk) e change n → IsMarked e (next change h)
    → life_after running change ≡ running → IsEvent tells (example_job meta) (state h desk) e (state (next change h) n)
comes tells meta h desk e change n may marked runs = (
  change,
  n,
  may,
  (λ t. (
    elapses_next (left_by change (had_now h)) h (Allows change (had_now h)) (left_allowed change (had_now h)),
    subst (λ (had : Had). Leaves change (had_now h) had) (sym (had_next (left_by change (had_now h)) h)) (left_is change (had_now h)),
    marked,
  )),
  ap (λ (l : Life). let s : State = record { disk = next change h; desk = n; life = l } in s) (sym runs),
)

-- the desks
abbrev no_cuts : Cuts
no_cuts e = []

abbrev first_files : Meta → Files
first_files meta = λ q. if same_name q name.Meta then Some (truth (example_course meta) name.Meta) else None

abbrev desk_0 : Meta → Desk
desk_0 meta = record { cuts = no_cuts; planned = 0; committed = 0; there = λ q. is_some (first_files meta q); sure = λ q. is_some (first_files meta q); tasks = λ t. waits; stores = λ p. [] }

abbrev desk_1 : Meta → Desk
desk_1 meta = with_file (name.Plan 0) (with_plan no_cuts (desk_0 meta))

abbrev desk_2 : Meta → Desk
desk_2 meta = with_sync (desk_1 meta)

abbrev desk_3 : Meta → Desk
desk_3 meta = placed (map_task 0 0) out (desk_2 meta)

abbrev desk_4 : Meta → Desk
desk_4 meta = placed (map_task 0 0) (back false None) (desk_3 meta)

abbrev desk_5 : Meta → Desk
desk_5 meta = placed (reduce 0 0) out (desk_4 meta)

abbrev desk_6 : Meta → Desk
desk_6 meta = placed (reduce 0 0) (sealed []) (with_store 0 [] (desk_5 meta))

abbrev desk_7 : Meta → Desk
desk_7 meta = with_file (name.Delta 0 0) (placed (reduce 0 0) (back false (Some [])) (desk_6 meta))

abbrev desk_8 : Meta → Desk
desk_8 meta = placed (out_task 0) out (desk_7 meta)

abbrev desk_9 : Meta → Desk
desk_9 meta = placed (out_task 0) (sealed []) (desk_8 meta)

abbrev desk_10 : Meta → Desk
desk_10 meta = placed (out_task 0) (back false (Some [])) (desk_9 meta)

abbrev desk_11 : Meta → Desk
desk_11 meta = with_file (name.Out 0) (desk_10 meta)

abbrev desk_12 : Meta → Desk
desk_12 meta = with_sync (desk_11 meta)

abbrev desk_13 : Meta → Desk
desk_13 meta = with_file (name.Commit 0) (with_commit (desk_12 meta))

abbrev desk_14 : Meta → Desk
desk_14 meta = with_sync (desk_13 meta)

-- no task failed
abbrev IsWhole : Desk → Type 0
IsWhole d = (t : TaskId) → d.tasks t ≡ failed → ⊥

whole_placed : (d : Desk) (t : TaskId) (place : Place) → (place ≡ failed → ⊥) → IsWhole d → IsWhole (placed t place d)
whole_placed d t place not whole u is = by (same_task u t) is
  where
    by : (b : Bool) → (if b then place else d.tasks u) ≡ failed → ⊥
    by true h = not h
    by false h = whole u h

whole_0 : (meta : Meta) → IsWhole (desk_0 meta)
whole_0 meta t is = cc

whole_3 : (meta : Meta) → IsWhole (desk_3 meta)
whole_3 meta = whole_placed (desk_2 meta) (map_task 0 0) out (λ h. cc) (whole_0 meta)

whole_4 : (meta : Meta) → IsWhole (desk_4 meta)
whole_4 meta = whole_placed (desk_3 meta) (map_task 0 0) (back false None) (λ h. cc) (whole_3 meta)

whole_5 : (meta : Meta) → IsWhole (desk_5 meta)
whole_5 meta = whole_placed (desk_4 meta) (reduce 0 0) out (λ h. cc) (whole_4 meta)

whole_6 : (meta : Meta) → IsWhole (desk_6 meta)
whole_6 meta = whole_placed (with_store 0 [] (desk_5 meta)) (reduce 0 0) (sealed []) (λ h. cc) (whole_5 meta)

whole_7 : (meta : Meta) → IsWhole (desk_7 meta)
whole_7 meta = whole_placed (desk_6 meta) (reduce 0 0) (back false (Some [])) (λ h. cc) (whole_6 meta)

whole_8 : (meta : Meta) → IsWhole (desk_8 meta)
whole_8 meta = whole_placed (desk_7 meta) (out_task 0) out (λ h. cc) (whole_7 meta)

whole_9 : (meta : Meta) → IsWhole (desk_9 meta)
whole_9 meta = whole_placed (desk_8 meta) (out_task 0) (sealed []) (λ h. cc) (whole_8 meta)

whole_10 : (meta : Meta) → IsWhole (desk_10 meta)
whole_10 meta = whole_placed (desk_9 meta) (out_task 0) (back false (Some [])) (λ h. cc) (whole_9 meta)

goes_on : (d : Desk) → IsWhole d → GoesOn running d
goes_on d whole = record { runs = refl; whole = whole }

-- the task of a kind of epoch 0
task_is : (t : TaskId) (k : Kind) → (t.number == 0) ≡ true → t.epoch ≡ 0 → t.kind ≡ k → t ≡ record { epoch = 0; kind = k; number = 0 }
task_is t k number epoch is =
    let n : t.number ≡ 0 = eqb-true t.number 0 number in
    λ i. record { epoch = epoch i; kind = is i; number = n i }

one_back : (meta : Meta) (d : Desk) (k : Kind) → IsBack (example_course meta) (record { epoch = 0; kind = k; number = 0 }) (d.tasks (record { epoch = 0; kind = k; number = 0 })) → AreBack (example_course meta) 0 k d.tasks
one_back meta d k is t task epoch same = subst (λ (u : TaskId). IsBack (example_course meta) u (d.tasks u)) (sym (task_is t k task epoch same)) is

none_sealed : (meta : Meta) (d : Desk) → d.tasks (map_task 0 0) ≡ back false None → AreBack (example_course meta) 0 kind.Map d.tasks
none_sealed meta d is = one_back meta d kind.Map (record { bytes = None; is = is; has = λ h. absurd (never h) })
  where
    never : false ≡ true → ⊥
    never h = cc

one_sealed : (meta : Meta) (d : Desk) → d.tasks (reduce 0 0) ≡ back false (Some []) → AreBack (example_course meta) 0 kind.Reduce d.tasks
one_sealed meta d is = one_back meta d kind.Reduce (record { bytes = Some []; is = is; has = λ h. refl })

runs_0 : (d : Desk) → d.committed ≡ 0 → d.planned ≡ 1 → d.sure (name.Plan 0) ≡ true → IsRunning d 0
runs_0 d committed planned sure = record { is = committed; planned = planned; settled = sure }

-- the first files stand
first_stands : (meta : Meta) → StandsAt (example_course meta) 0 0 (first_files meta)
first_stands meta = record {
  reached = record { planned_first = omega arith; one_ahead = omega arith; few = omega arith };
  are_true = is_true;
  needed = needs;
  allowed = allows;
  loads = λ p less. record { from = 0; deltas = λ v from below. absurd (omega (arith, below)); base = inl refl };
  faultless = λ e there. refl;
}
  where
    is_true : (q : Name) → IsNoOther (first_files meta) q (truth (example_course meta) q)
    is_true name.Meta = inr refl
    is_true (name.Plan e) = inl refl
    is_true (name.Commit e) = inl refl
    is_true (name.Out e) = inl refl
    is_true (name.Delta p v) = inl refl
    is_true (name.Snapshot p v) = inl refl

    needs : (q : Name) → is_needed 0 0 q ≡ true → IsThere (first_files meta) q
    needs name.Meta need = refl
    needs (name.Plan e) need = absurd (omega (arith, ltb-true e 0 need))
    needs (name.Commit e) need = absurd (omega (arith, ltb-true e 0 need))
    needs (name.Out e) need = absurd (omega (arith, ltb-true e 0 need))
    needs (name.Delta p v) need = cc
    needs (name.Snapshot p v) need = cc

    allows : (q : Name) → IsThere (first_files meta) q → is_allowed 1 0 0 q ≡ true
    allows name.Meta there = refl
    allows (name.Plan e) there = cc
    allows (name.Commit e) there = cc
    allows (name.Out e) there = cc
    allows (name.Delta p v) there = cc
    allows (name.Snapshot p v) there = cc

first_opened : (meta : Meta) → opened (example_job meta) (first_files meta) (desk_0 meta)
first_opened meta = (first_stands meta, (λ e less. refl), (λ q. refl), (λ q. refl), (λ t. refl), (λ p less. refl))

-- from the opening to the crash
abbrev epoch_run : ℕ → List Event
epoch_run clock =
    event.Plan 0 ∷ event.Sync (clock + 4) ∷ event.Claim (map_task 0 0) ∷ event.Report (map_task 0 0)
    ∷ event.Claim (reduce 0 0) ∷ event.Seal (reduce 0 0) ∷ event.Report (reduce 0 0) ∷ event.Claim (out_task 0) ∷ event.Seal (out_task 0)
    ∷ event.Report (out_task 0) ∷ event.OutFile 0 ∷ event.Sync (clock + 14) ∷ event.Commit 0 ∷ event.Sync (clock + 16) ∷ event.Crash ∷ []

abbrev plan_made : Meta → History → History
plan_made meta h = next syncs (next (publishes (name.Plan 0) (truth (example_course meta) (name.Plan 0))) h)

abbrev still : History → History
still h = next nothing h

abbrev reduced : Meta → History → History
reduced meta h = next (publishes (name.Delta 0 0) []) (still (still (still (still (plan_made meta h)))))

abbrev written : Meta → History → History
written meta h = next syncs (next (publishes (name.Out 0) []) (still (still (still (reduced meta h)))))

abbrev committed : Meta → History → History
committed meta h = next syncs (next (publishes (name.Commit 0) (truth (example_course meta) (name.Commit 0))) (written meta h))

abbrev crashed : Meta → History → History
crashed meta h = next_moment (settled_at (files_now (committed meta h))) (committed meta h)

first_epoch : (tells : Type 0) (meta : Meta) (clock : ℕ) (h : History) → h.moment ≡ clock + 2
    → Leads tells (example_job meta) (state h (Some (desk_0 meta))) (epoch_run clock) (state (crashed meta h) None)
first_epoch tells meta clock h at =
    let plan = truth (example_course meta) (name.Plan 0) in
    let commit = truth (example_course meta) (name.Commit 0) in
    let h1 : History = next (publishes (name.Plan 0) plan) h in
    let h2 : History = next syncs h1 in
    let h3 : History = still h2 in
    let h4 : History = still h3 in
    let h5 : History = still h4 in
    let h6 : History = still h5 in
    let h7 : History = next (publishes (name.Delta 0 0) []) h6 in
    let h8 : History = still h7 in
    let h9 : History = still h8 in
    let h10 : History = still h9 in
    let h11 : History = next (publishes (name.Out 0) []) h10 in
    let h12 : History = next syncs h11 in
    let h13 : History = next (publishes (name.Commit 0) commit) h12 in
    let h14 : History = next syncs h13 in (
      state h1 (Some (desk_1 meta)),
      comes tells meta h (Some (desk_0 meta)) (event.Plan 0) (publishes (name.Plan 0) plan) (Some (desk_1 meta))
          (desk_0 meta, desk_1 meta, refl, refl, (no_cuts, goes_on (desk_0 meta) (whole_0 meta), refl, refl, omega arith, (λ f is. absurd (omega (arith, is))), (λ e le. refl), refl, refl, refl)) tt refl,
      (
        state h2 (Some (desk_2 meta)),
        comes tells meta h1 (Some (desk_1 meta)) (event.Sync (clock + 4)) syncs (Some (desk_2 meta))
            (desk_1 meta, desk_2 meta, refl, refl, (goes_on (desk_1 meta) (whole_0 meta), refl, refl)) (omega (arith, at)) refl,
        (
          state h3 (Some (desk_3 meta)),
          comes tells meta h2 (Some (desk_2 meta)) (event.Claim (map_task 0 0)) nothing (Some (desk_3 meta))
              (desk_2 meta, desk_3 meta, refl, refl, (goes_on (desk_2 meta) (whole_0 meta), (refl, refl, runs_0 (desk_2 meta) refl refl refl), refl, refl)) tt refl,
          (
            state h4 (Some (desk_4 meta)),
            comes tells meta h3 (Some (desk_3 meta)) (event.Report (map_task 0 0)) nothing (Some (desk_4 meta))
                (desk_3 meta, desk_4 meta, refl, refl, inr (None, inl (refl, refl, inr refl), inl (refl, refl, (λ t is. cc), inr (λ k f. refl)))) tt refl,
            (
              state h5 (Some (desk_5 meta)),
              comes tells meta h4 (Some (desk_4 meta)) (event.Claim (reduce 0 0)) nothing (Some (desk_5 meta))
                  (desk_4 meta, desk_5 meta, refl, refl, (goes_on (desk_4 meta) (whole_4 meta), (refl, refl, (runs_0 (desk_4 meta) refl refl refl, none_sealed meta (desk_4 meta) refl)), refl, refl)) tt refl,
              (
                state h6 (Some (desk_6 meta)),
                comes tells meta h5 (Some (desk_5 meta)) (event.Seal (reduce 0 0)) nothing (Some (desk_6 meta))
                    (desk_5 meta, desk_6 meta, refl, refl, ([], refl, ([], omega arith, (λ h. (refl, refl)), refl), refl, (λ t is. cc))) tt refl,
                (
                  state h7 (Some (desk_7 meta)),
                  comes tells meta h6 (Some (desk_6 meta)) (event.Report (reduce 0 0)) (publishes (name.Delta 0 0) []) (Some (desk_7 meta))
                      (desk_6 meta, desk_7 meta, refl, refl, inr (Some [], inr ([], refl, refl), inr (inl ([], refl, refl, refl, refl, refl, refl)))) tt refl,
                  (
                    state h8 (Some (desk_8 meta)),
                    comes tells meta h7 (Some (desk_7 meta)) (event.Claim (out_task 0)) nothing (Some (desk_8 meta))
                        (desk_7 meta, desk_8 meta, refl, refl, (goes_on (desk_7 meta) (whole_7 meta), (refl, refl, (runs_0 (desk_7 meta) refl refl refl, none_sealed meta (desk_7 meta) refl, one_sealed meta (desk_7 meta) refl)), refl, refl)) tt refl,
                    (
                      state h9 (Some (desk_9 meta)),
                      comes tells meta h8 (Some (desk_8 meta)) (event.Seal (out_task 0)) nothing (Some (desk_9 meta))
                          (desk_8 meta, desk_9 meta, refl, refl, ([], refl, (refl, refl), refl, (λ t is. cc))) tt refl,
                      (
                        state h10 (Some (desk_10 meta)),
                        comes tells meta h9 (Some (desk_9 meta)) (event.Report (out_task 0)) nothing (Some (desk_10 meta))
                            (desk_9 meta, desk_10 meta, refl, refl, inr (Some [], inr ([], refl, refl), inl (refl, refl, (λ t is. cc), inr (λ k f. cc)))) tt refl,
                        (
                          state h11 (Some (desk_11 meta)),
                          comes tells meta h10 (Some (desk_10 meta)) (event.OutFile 0) (publishes (name.Out 0) []) (Some (desk_11 meta))
                              (desk_10 meta, desk_11 meta, refl, refl, ([], goes_on (desk_10 meta) (whole_10 meta), runs_0 (desk_10 meta) refl refl refl, refl, refl, refl)) tt refl,
                          (
                            state h12 (Some (desk_12 meta)),
                            comes tells meta h11 (Some (desk_11 meta)) (event.Sync (clock + 14)) syncs (Some (desk_12 meta))
                                (desk_11 meta, desk_12 meta, refl, refl, (goes_on (desk_11 meta) (whole_10 meta), refl, refl)) (omega (arith, at)) refl,
                            (
                              state h13 (Some (desk_13 meta)),
                              comes tells meta h12 (Some (desk_12 meta)) (event.Commit 0) (publishes (name.Commit 0) commit) (Some (desk_13 meta))
                                  (desk_12 meta, desk_13 meta, refl, refl, (Some [], goes_on (desk_12 meta) (whole_10 meta), runs_0 (desk_12 meta) refl refl refl, refl, refl, (λ p less. (let is : p ≡ 0 = omega (arith, less) in ap (λ m. (desk_12 meta).sure (name.Delta m 0)) is)), refl, refl)) tt refl,
                              (
                                state h14 (Some (desk_14 meta)),
                                comes tells meta h13 (Some (desk_13 meta)) (event.Sync (clock + 16)) syncs (Some (desk_14 meta))
                                    (desk_13 meta, desk_14 meta, refl, refl, (goes_on (desk_13 meta) (whole_10 meta), refl, refl)) (omega (arith, at)) refl,
                                (
                                  state (crashed meta h) None,
                                  (files_now h14, (λ t. (files_are_image (had_now h14), elapses_next (settled_at (files_now h14)) h14 (λ had. had ≡ settled_at (files_now h14)) refl, had_next (settled_at (files_now h14)) h14)), refl),
                                  refl,
                                ),
                              ),
                            ),
                          ),
                        ),
                      ),
                    ),
                  ),
                ),
              ),
            ),
          ),
        ),
      ),
    )

-- what is there after the first record
begun_files : (meta : Meta) (h : History) → had_now h ≡ settled_at (λ q. None) → files_now (next (publishes name.Meta (truth (example_course meta) name.Meta)) h) ≡ first_files meta
begun_files meta h empty =
    let text = truth (example_course meta) name.Meta in
    let at : (q : Name) → files_of (added name.Meta text (settled_at (λ r. None))) q ≡ first_files meta q = λ q. newest_changed name.Meta q (Some text) (settled_at (λ r. None)) in
    ap files_of (had_next (added name.Meta text (had_now h)) h) ∙ ap (λ (had : Had). files_of (added name.Meta text had)) empty ∙ (λ i q. at q i)

pub example_runs : (tells : Type 0) → ExampleRuns tells
example_runs tells meta h empty =
    let text = truth (example_course meta) name.Meta in
    let job = example_job meta in
    let h1 : History = next (publishes name.Meta text) h in
    let h2 : History = next syncs h1 in
    let files : files_now h1 ≡ first_files meta = begun_files meta h empty in
    let first : IsEvent tells job (state h None) event.Init (state h1 None) = comes tells meta h None event.Init (publishes name.Meta text) None
    (no_cuts, refl, refl, (λ q c may. settled_may (λ r. None) q c (subst (λ (had : Had). MayBe (had q) c) empty may)), refl, refl) tt refl in
    let spelled : opened job (files_now h1) (desk_0 meta) = subst (λ (f : Files). opened job f (desk_0 meta)) (sym files) (first_opened meta) in
    let meta_there : IsThere (files_now h1) name.Meta = subst (λ (f : Files). IsThere f name.Meta) (sym files) refl in
    let second : IsEvent tells job (state h1 None) event.Open (state h2 (Some (desk_0 meta))) = comes tells meta h1 None event.Open syncs (Some (desk_0 meta))
    (desk_0 meta, refl, refl, meta_there, spelled, refl, refl) tt refl in
    let sound : IsSoundAt job (desk_0 meta) (had_now h2) = subst (λ (had : Had). IsSoundAt job (desk_0 meta) had) (sym (had_next (settled_at (files_now h1)) h1)) (open_sound job (files_now h1) (desk_0 meta) spelled) in
    let moved = moves_on ⊤ job (epoch_run h.moment) (state h2 (Some (desk_0 meta))) (state (crashed meta h2) None) tt (causal meta) sound (first_epoch ⊤ meta h.moment h2 (omega arith)) in
    let sure : IsSure (had_now (crashed meta h2)) name.Meta = moved.sure name.Meta refl sound.holds.meta in
    let last = can_open job (state (crashed meta h2) None) (sound_stands job (state (crashed meta h2) None) moved.sound) refl refl (sure (files_now (crashed meta h2) name.Meta) (files_are_image (had_now (crashed meta h2)) name.Meta)) in
    let end : State = state (next syncs (crashed meta h2)) (Some last.0) in
    let third : IsEvent tells job (state (crashed meta h2) None) event.Open end = comes tells meta (crashed meta h2) None event.Open syncs (Some last.0) last.1 tt refl in
    let middle = one_more tells job (state h2 (Some (desk_0 meta))) (epoch_run h.moment) (state (crashed meta h2) None) event.Open end (first_epoch tells meta h.moment h2 (omega arith)) third in
    (causal meta, (end, (state h1 None, first, (state h2 (Some (desk_0 meta)), second, middle))))
