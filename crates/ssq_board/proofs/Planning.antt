-- Entries that publish or sync may come on the machine's desk, and the desk shows it after them.
use Rattle.std.proofs.Common.{◌≡◌, ◌⊎◌, ◌+◌, ◌<◌, ◌&&◌, ◌||◌, ℕ, Bool, true, false, true≢false, List, map, Option, Some, None, if◌then◌else◌, sym, refl, ap, ◌∙◌, subst, inl, inr, arith, le-ltb, lt-ltb}
use mathlib.Core.Option.{some, some-ne-none}
use lib.ListN.{get_elem?}
use Rattle.std.proofs.lemmas.Bool.{cases_lt, and_right}
use Rattle.ssq_outside.specs.declared.name.Name.{Name}
use Rattle.ssq_outside.specs.declared.name.Name.TheVariants as name
use Rattle.ssq_outside.specs.declared.gate.TaskId.{TaskId}
use Rattle.ssq_outside.specs.declared.gate.Kind.{Kind}
use Rattle.ssq_outside.specs.declared.gate.Kind.TheVariants as kind
use Rattle.ssq_outside.specs.Files.{same_name}
use Rattle.ssq_core.specs.declared.event.Event.TheVariants as event
use Rattle.ssq_core.specs.Course.{Course, Cuts, Ends, Job, AreSameUpTo}
use Rattle.ssq_core.specs.Machine.{Desk, with_file, with_plan, with_commit, with_sync, out_task, reduce, publishes, syncs, IsRunning, GoesOn, MayOn}
use Rattle.ssq_core.specs.Machine as machine
use Rattle.ssq_core.specs.Sound.{AreProper}
use Rattle.ssq_core.proofs.Epochs.{there_new}
use Rattle.ssq_board.specs.declared.front.Place.{Place}
use Rattle.ssq_board.specs.declared.front.Place.TheVariants as place
use Rattle.ssq_board.specs.declared.front.Entry.TheVariants as entry
use Rattle.ssq_board.specs.Core.{Scope, Core, next_ends, is_behind, has_line, has_line_at, is_open, tasks_of, extended, May, after}
use Rattle.ssq_board.specs.Shown.{IsSound}
use Rattle.ssq_board.specs.Follows.{Terms, map_task, change_of, IsDone, ShowsAt, AreThere, Shows, life_of}
use Rattle.ssq_board.proofs.Lists.{at_length, const_at, map_length, one_at, dealt_at, dealt_length, line_below, not_behind, back_no_more}
use Rattle.ssq_board.proofs.Sounds.{open_less, open_not}
use Rattle.ssq_board.proofs.Placing.{runs, same_at, shows_else}

pub runs_on : (c : Core) → c.front.stop ≡ None → life_of c.front.stop ≡ machine.running
runs_on c e = ap life_of e

-- a file that is there is there after a publish
pub there_still : (q p : Name) (d : Desk) → d.there q ≡ true → (with_file p d).there q ≡ true
there_still q p d h = by (same_name q p) refl
  where
    by : (b : Bool) → same_name q p ≡ b → (if same_name q p then true else d.there q) ≡ true
    by true is = ap (λ (b : Bool). if b then true else d.there q) is
    by false is = ap (λ (b : Bool). if b then true else d.there q) is ∙ h

-- a task that is done was claimed
done_went : (course : Course) (t : TaskId) (there : machine.Place) → IsDone course t there → there ≡ machine.waits → ⊥
done_went course t there done waits = (let e = sym waits ∙ done.is in back_waits e)
  where
    back_waits : {b : Option (List ℕ)} → machine.waits ≡ machine.back false b → ⊥
    back_waits e = cc

less_or : (e n : ℕ) → e < n + 1 → (e < n) ⊎ (e ≡ n)
less_or e n less = elim (cases_lt e n) [ inl l ↦ inl l | inr le ↦ inr (omega arith) ]

and_yes : (a b : Bool) → b ≡ true → (a && b) ≡ a
and_yes true b h = h
and_yes false b h = refl

module _ (job : Job) (r : Scope) (due : Cuts → ℕ → Bool) (terms : Terms job r due) (c : Core) (d : Desk) (sound : IsSound r c) (s : Shows job r due terms c d) where
  course : Course
  course = job.course d.cuts

  -- the machine's desk goes on
  pub goes_on : c.front.stop ≡ None → GoesOn (life_of c.front.stop) d
  goes_on run = record { runs = runs_on c run; whole = s.whole run }

  -- the rows of the epoch that runs
  abbrev pub out_desk : ℕ → Desk
  out_desk e = with_file (name.Out e) d

  pub out_may_on : (e : ℕ) → May r c (entry.OutFile e) → MayOn job d (life_of c.front.stop) (event.OutFile e) (change_of job c d.cuts (entry.OutFile e)) (out_desk e)
  out_may_on e m =
      let t = out_task c.front.committed in
      let done : IsDone (job.course d.cuts) t (d.tasks t) = s.tasks m.2 t (place.Back None) refl m.4 in
      let fresh : c.front.fresh ≡ true = elim (s.claimed t refl) [ inl waits ↦ absurd (done_went (job.course d.cuts) t (d.tasks t) done waits) | inr f ↦ f ] in
      let back : d.tasks t ≡ machine.back false (Some ((job.course d.cuts).rows c.front.committed)) = done.is ∙ ap (machine.back false) (done.has refl) in (
        (job.course d.cuts).rows e,
        goes_on m.0,
        runs job r due terms c d e sound s m.2 fresh m.1,
        subst (λ (x : ℕ). d.tasks (out_task x) ≡ machine.back false (Some ((job.course d.cuts).rows x))) (sym m.1) back,
        refl,
        refl,
      )

  pub out_shows : (e : ℕ) → May r c (entry.OutFile e) → Shows job r due terms (after r c (entry.OutFile e)) (out_desk e)
  out_shows e m = shows_else job r due terms c d (after r c (entry.OutFile e)) (out_desk e) s (record {
    settled = λ h. absurd (true≢false (sym h));
    plan_there = λ k less. there_still (name.Plan k) (name.Out e) d (s.plan_there k less);
    plan_settled = s.plan_settled;
    commits = λ k less. there_still (name.Commit k) (name.Out e) d (s.commits k less);
  }) (record {
    written = λ o w. (
      subst (λ (x : ℕ). (out_desk e).there (name.Out x) ≡ true) m.1 (there_new (name.Out e) d),
      s.tasks o (out_task c.front.committed) (place.Back None) refl m.4,
    );
    tasks = λ o t p epoch here. s.tasks o t p epoch (same_at t.kind c (after r c (entry.OutFile e)).front t.number ∙ here);
    deltas = λ o run i less here. there_still (name.Delta i c.front.committed) (name.Out e) d (s.deltas o m.0 i less here);
    reduced = λ o. elim (s.reduced o) [ inl waits ↦ inl waits | inr all ↦ inr (λ i less. there_still (name.Delta i c.front.committed) (name.Out e) d (all i less)) ];
    mapped = s.mapped;
    claimed = s.claimed;
    later = s.later;
    whole = λ run. s.whole m.0;
  })

  pub sync_may_on : (clock : ℕ) → May r c (entry.Sync clock) → MayOn job d (life_of c.front.stop) (event.Sync clock) syncs (with_sync d)
  sync_may_on clock m = (goes_on m, refl, refl)

  pub sync_shows : (clock : ℕ) → May r c (entry.Sync clock) → Shows job r due terms (after r c (entry.Sync clock)) (with_sync d)
  sync_shows clock m = shows_else job r due terms c d (after r c (entry.Sync clock)) (with_sync d) s (record {
    settled = λ h q other there. there;
    plan_there = s.plan_there;
    plan_settled = λ o f. s.plan_there c.front.committed (open_less c o);
    commits = s.commits;
  }) (record {
    written = s.written;
    tasks = λ o t p epoch here. s.tasks o t p epoch (same_at t.kind c (after r c (entry.Sync clock)).front t.number ∙ here);
    deltas = λ o run i less here. s.deltas o m i less here;
    reduced = s.reduced;
    mapped = s.mapped;
    claimed = λ t epoch. inr refl;
    later = s.later;
    whole = λ run. s.whole m;
  })

  abbrev pub commit_desk : ℕ → Desk
  commit_desk e = with_file (name.Commit e) (with_commit d)

  pub commit_may_on : (e : ℕ) (next : Bool) → May r c (entry.Commit e next) → MayOn job d (life_of c.front.stop) (event.Commit e) (change_of job c d.cuts (entry.Commit e next)) (commit_desk e)
  commit_may_on e next m =
      let w = s.written m.2 m.4 in (
        w.1.bytes,
        goes_on m.0,
        runs job r due terms c d e sound s m.2 m.3 m.1,
        subst (λ (x : ℕ). d.tasks (out_task x) ≡ machine.back false w.1.bytes) (sym m.1) w.1.is,
        subst (λ (x : ℕ). d.sure (name.Out x) ≡ true) (sym m.1) (s.settled m.5 (name.Out c.front.committed) refl w.0),
        (λ i less. subst (λ (x : ℕ). d.sure (name.Delta i x) ≡ true) (sym m.1) (s.settled m.5 (name.Delta i c.front.committed) refl (are_there i less))),
        refl,
        refl,
      )
    where
      are_there : AreThere (job.course d.cuts) d c.front.committed
      are_there = elim (s.reduced m.2) [
        | inl waits ↦ absurd (done_went (job.course d.cuts) (out_task c.front.committed) (d.tasks (out_task c.front.committed)) (s.written m.2 m.4).1 waits)
        | inr all ↦ all
      ]

  pub commit_shows : (e : ℕ) (next : Bool) → May r c (entry.Commit e next) → next ≡ due d.cuts (e + 1) → Shows job r due terms (after r c (entry.Commit e next)) (commit_desk e)
  commit_shows e next m right = record {
    planned = s.planned;
    committed = ap (λ (x : ℕ). x + 1) s.committed;
    starts = s.starts;
    ends = s.ends;
    proper = s.proper;
    settled = λ h. absurd (true≢false (sym h));
    plan_there = λ k less. there_still (name.Plan k) (name.Commit e) d (s.plan_there k less);
    plan_settled = λ o f. absurd (true≢false (sym o ∙ closed));
    commits = λ k less. elim (less_or k c.front.committed less) [
      | inl below ↦ there_still (name.Commit k) (name.Commit e) d (s.commits k below)
      | inr same ↦ subst (λ (x : ℕ). (commit_desk e).there (name.Commit x) ≡ true) (m.1 ∙ sym same) (there_new (name.Commit e) d)
    ];
    written = λ o w. absurd (true≢false (sym o ∙ closed));
    tasks = λ o. absurd (true≢false (sym o ∙ closed));
    deltas = λ o. absurd (true≢false (sym o ∙ closed));
    reduced = λ o. absurd (true≢false (sym o ∙ closed));
    mapped = λ o. absurd (true≢false (sym o ∙ closed));
    claimed = λ t epoch. inl (s.later t (let a = sound.near in omega arith));
    later = s.later;
    whole = λ run. s.whole m.0;
    has_lines = λ o. absurd (true≢false (sym o ∙ closed));
    due = λ h. by c.front.has_lines refl;
  }
    where
      closed : is_open (after r c (entry.Commit e next)) ≡ false
      closed = le-ltb (c.front.committed + 1) c.front.planned sound.near

      all : c.front.committed + 1 ≡ c.front.planned
      all = (let a = sound.near in let b = open_less c m.2 in omega arith)

      by : (b : Bool) → c.front.has_lines ≡ b → (next && c.front.has_lines) ≡ due d.cuts c.front.planned
      by true lines = and_yes next c.front.has_lines lines ∙ right ∙ ap (due d.cuts) (ap (λ (x : ℕ). x + 1) m.1 ∙ all)
      by false lines = and_right next c.front.has_lines lines
          ∙ sym (terms.quiet d.cuts c.front.committed (subst (λ (n : ℕ). AreProper job d.cuts n) (sym all) s.proper)
          (subst (λ (n : ℕ). has_line (d.cuts c.front.committed) (d.cuts n) ≡ false) (sym all) (s.has_lines m.2 lines))) ∙ ap (due d.cuts) all

  -- the next cut
  abbrev pub next_cuts : Cuts
  next_cuts = extended d.cuts c.front.planned (next_ends r.cap c.ends r.available)

  abbrev pub plan_desk : ℕ → Desk
  plan_desk e = with_file (name.Plan e) (with_plan next_cuts d)

  same_below : AreSameUpTo d.cuts next_cuts c.front.planned
  same_below k le = sym (ap (λ (b : Bool). if b then next_ends r.cap c.ends r.available else d.cuts k) (le-ltb c.front.planned k le))

  next_is : next_cuts (c.front.planned + 1) ≡ next_ends r.cap c.ends r.available
  next_is = ap (λ (b : Bool). if b then next_ends r.cap c.ends r.available else d.cuts (c.front.planned + 1)) (lt-ltb c.front.planned (c.front.planned + 1) (omega arith))

  here_is : next_cuts c.front.planned ≡ c.ends
  here_is = sym (same_below c.front.planned (omega arith)) ∙ s.ends

  or_cases : (a b : Bool) → (a || b) ≡ true → (a ≡ true) ⊎ (b ≡ true)
  or_cases true b h = inl refl
  or_cases false b h = inr h

  proper_below : AreProper job next_cuts c.front.planned
  proper_below k less = terms.causal.follows d.cuts next_cuts c.front.planned k same_below less (s.proper k less)

  next_may : (e : ℕ) → May r c (entry.Plan e) → job.is_next next_cuts c.front.planned ≡ true
  next_may e m = terms.next next_cuts c.front.planned (sym (same_below 0 (omega arith)) ∙ s.starts) proper_below (next_is ∙ ap (λ (x : Ends). next_ends r.cap x r.available) (sym here_is))
      (elim (or_cases (is_behind c.ends r.available) c.front.due m.4) [
        | inl behind ↦ inl (ap (λ (x : Ends). is_behind x r.available) here_is ∙ behind)
        | inr is ↦ inr (sym (terms.dues d.cuts next_cuts c.front.planned same_below) ∙ sym (s.due m.2) ∙ is)
      ])

  all_committed : (e : ℕ) → May r c (entry.Plan e) → c.front.committed ≡ c.front.planned
  all_committed e m = (let a = open_not c m.2 in let b = sound.before in omega arith)

  pub plan_may_on : (e : ℕ) → May r c (entry.Plan e) → MayOn job d (life_of c.front.stop) (event.Plan e) (change_of job c next_cuts (entry.Plan e)) (plan_desk e)
  plan_may_on e m = (
    next_cuts,
    goes_on m.0,
    m.1 ∙ sym s.planned,
    s.committed ∙ all_committed e m ∙ sym m.1,
    m.5,
    (λ f is. s.settled m.3 (name.Commit f) refl (s.commits f (let a = all_committed e m in let b = m.1 in omega arith))),
    subst (λ (n : ℕ). AreSameUpTo d.cuts next_cuts n) (sym m.1) same_below,
    subst (λ (n : ℕ). job.is_next next_cuts n ≡ true) (sym m.1) (next_may e m),
    refl,
    refl,
  )

  pub plan_shows : (e : ℕ) → May r c (entry.Plan e) → Shows job r due terms (after r c (entry.Plan e)) (plan_desk e)
  plan_shows e m = record {
    planned = ap (λ (x : ℕ). x + 1) s.planned;
    committed = s.committed;
    starts = sym (same_below 0 (omega arith)) ∙ s.starts;
    ends = next_is;
    proper = λ k less. elim (less_or k c.front.planned less) [ inl below ↦ proper_below k below | inr same ↦ subst (λ (n : ℕ). job.is_next next_cuts n ≡ true) (sym same) (next_may e m) ];
    settled = λ h. absurd (true≢false (sym h));
    plan_there = λ k less. elim (less_or k c.front.planned less) [
      | inl below ↦ there_still (name.Plan k) (name.Plan e) d (s.plan_there k below)
      | inr same ↦ subst (λ (x : ℕ). (plan_desk e).there (name.Plan x) ≡ true) (m.1 ∙ sym same) (there_new (name.Plan e) d)
    ];
    plan_settled = λ o f. absurd (true≢false (sym f));
    commits = λ k less. there_still (name.Commit k) (name.Plan e) d (s.commits k less);
    written = λ o w. absurd (true≢false (sym w));
    tasks = λ o t p epoch here. by_kind t.kind t p refl epoch here;
    deltas = λ o run i less here. absurd (back_no_more (const_at place.Waits (place.Back None) c.reduces i here));
    reduced = λ o. inl (waiting (out_task c.front.committed) refl);
    mapped = λ o i is. (let b = line_below c.ends (next_ends r.cap c.ends r.available) i (sym (map_is i) ∙ is) in let l = dealt_length c.ends (next_ends r.cap c.ends r.available) in omega arith);
    claimed = λ t epoch. inl (waiting t epoch);
    later = λ t le. s.later t (omega (arith, le));
    whole = λ run. s.whole m.0;
    has_lines = λ o h. (λ i. has_line (from_is i) (next_is i)) ∙ not_behind r.cap c.ends r.available h;
    due = λ h. absurd (true≢false (sym (lt-ltb c.front.committed (c.front.planned + 1) (let a = all_committed e m in omega arith)) ∙ h));
  }
    where
      from_is : next_cuts c.front.committed ≡ c.ends
      from_is = ap next_cuts (all_committed e m) ∙ here_is

      waiting : (t : TaskId) → t.epoch ≡ c.front.committed → d.tasks t ≡ machine.waits
      waiting t epoch = s.later t (let a = all_committed e m in omega arith)

      map_is : (i : ℕ) → (job.course next_cuts).is_task (map_task c.front.committed i) ≡ has_line_at c.ends (next_ends r.cap c.ends r.available) i
      map_is i = terms.maps next_cuts c.front.committed i ∙ (λ j. has_line_at (from_is j) ((ap next_cuts (ap (λ (x : ℕ). x + 1) (all_committed e m)) ∙ next_is) j) i)

      shows : (t : TaskId) (p : Place) → p ≡ place.Waits → (job.course next_cuts).is_task t ≡ true → d.tasks t ≡ machine.waits → ShowsAt (job.course next_cuts) t (d.tasks t) p
      shows t p is task waits = subst (ShowsAt (job.course next_cuts) t (d.tasks t)) (sym is) (task, waits)

      as_task : (k : Kind) (t : TaskId) → t.kind ≡ k → t.epoch ≡ c.front.committed → t ≡ record { epoch = c.front.committed; kind = k; number = t.number }
      as_task k t same epoch = λ i. record { epoch = epoch i; kind = same i; number = t.number }

      by_kind : (k : Kind) (t : TaskId) (p : Place) → t.kind ≡ k → t.epoch ≡ c.front.committed → get_elem? (tasks_of k (after r c (entry.Plan e))) t.number ≡ some p → ShowsAt (job.course next_cuts) t (d.tasks t) p
      by_kind kind.Map t p same epoch here =
          let it = as_task kind.Map t same epoch in
          let task_is = ap (job.course next_cuts).is_task it ∙ map_is t.number in
          elim (dealt_at c.ends (next_ends r.cap c.ends r.available) t.number p here) [
            | inl x ↦ shows t p x.0 (task_is ∙ x.1) (waiting t epoch)
            | inr x ↦ subst (ShowsAt (job.course next_cuts) t (d.tasks t)) (sym x.0) (task_is ∙ x.1)
          ]
      by_kind kind.Reduce t p same epoch here =
          let it = as_task kind.Reduce t same epoch in
          let task_is = ap (job.course next_cuts).is_task it ∙ terms.reduces next_cuts c.front.committed t.number in
          let below : t.number < r.partitions = (let a = at_length (map (λ _. place.Waits) c.reduces) t.number p here in let l = map_length (λ _. place.Waits) c.reduces in let n = sound.reduces in omega arith) in
          shows t p (const_at place.Waits p c.reduces t.number here) (task_is ∙ lt-ltb t.number r.partitions below) (waiting t epoch)
      by_kind kind.Out t p same epoch here =
          let o = one_at place.Waits p t.number here in
          let it : t ≡ out_task c.front.committed = (λ i. record { epoch = epoch i; kind = same i; number = o.0 i }) in
          shows t p o.1 (ap (job.course next_cuts).is_task it ∙ terms.outs next_cuts c.front.committed) (waiting t epoch)
      by_kind kind.Upkeep t p same epoch here = absurd (some-ne-none p (sym here))
