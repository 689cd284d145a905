-- What the machine's Open leaves is shown by the first state.
use Rattle.std.proofs.Common.{◌≡◌, ◌+◌, ◌<◌, ◌++◌, nat_lt, ℕ, Bool, true, false, true≢false, replicate, List, length, Option, None, is_some, sym, refl, ap, ◌∙◌, subst, inl, inr, arith, le-ltb, lt-ltb, ltb-true}
use mathlib.Core.Option.{some, some-ne-none}
use lib.ListN.{get_elem?}
use Rattle.ssq_outside.specs.declared.name.Name.{Name}
use Rattle.ssq_outside.specs.declared.name.Name.TheVariants as name
use Rattle.ssq_outside.specs.declared.gate.TaskId.{TaskId}
use Rattle.ssq_outside.specs.declared.gate.Kind.{Kind}
use Rattle.ssq_outside.specs.declared.gate.Kind.TheVariants as kind
use Rattle.ssq_outside.specs.Files.{Files}
use Rattle.ssq_upkeep.specs.Upkeep.{is_among, is_up_to}
use Rattle.ssq_core.specs.Course.{Cuts, Job}
use Rattle.ssq_core.specs.Machine.{Desk, opened, out_task, reduce, upkeep}
use Rattle.ssq_core.specs.Machine as machine
use Rattle.ssq_core.specs.Sound.{AreProper, is_state}
use Rattle.ssq_board.specs.declared.front.Place.{Place}
use Rattle.ssq_board.specs.declared.front.Place.TheVariants as place
use Rattle.ssq_board.specs.Core.{Scope, Core, at, has_line, has_line_at, is_open, tasks_of}
use Rattle.ssq_board.specs.Shown.{Start, planned_by, first_place, first_by}
use Rattle.ssq_board.specs.Shelf.{Shelf, IsFirstShelf, there_in}
use Rattle.ssq_board.specs.Follows.{Terms, map_task, ShowsAt, Shows, ShowsShelf}
use Rattle.ssq_board.proofs.Keeping.{among_end, settled_last, up_to_is}
use Rattle.ssq_board.proofs.Lists.{at_length, replicate_length, replicate_at, one_at, dealt_at, dealt_length, line_below, back_no_more}

module _ (job : Job) (r : Scope) (next : Cuts → ℕ → Bool) (terms : Terms job r next) (s : Start) (files : Files) (d : Desk) (committed : d.committed ≡ s.committed)
    (begins : d.cuts 0 ≡ terms.start) (from : d.cuts s.committed ≡ s.from) (op : opened job files d) where
  there_of : (q : Name) → is_some (files q) ≡ true → d.there q ≡ true
  there_of q h = op.2 q ∙ h

  sure_of : (q : Name) → is_some (files q) ≡ true → d.sure q ≡ true
  sure_of q h = op.3 q ∙ h

  plan_file : (b : Bool) → d.planned ≡ planned_by b s.committed → (e : ℕ) → e < planned_by b s.committed → is_some (files (name.Plan e)) ≡ true
  plan_file b planned e less = op.0.needed (name.Plan e) (lt-ltb e d.planned (omega (arith, planned)))

  commit_file : (e : ℕ) → e < s.committed → is_some (files (name.Commit e)) ≡ true
  commit_file e less = op.0.needed (name.Commit e) (lt-ltb e d.committed (omega (arith, committed)))

  waits_failed : machine.waits ≡ machine.failed → ⊥
  waits_failed e = cc

  shows_it : (t : TaskId) (p : Place) → p ≡ place.Waits → (job.course d.cuts).is_task t ≡ true → ShowsAt (job.course d.cuts) t (d.tasks t) p
  shows_it t p is task = subst (ShowsAt (job.course d.cuts) t (d.tasks t)) (sym is) (task, op.4 t)

  -- the tasks that are dealt out
  record AreDealt (c : Core) : Type 0 where
    tasks : (t : TaskId) (p : Place) → t.epoch ≡ s.committed → at c t ≡ some p → ShowsAt (job.course d.cuts) t (d.tasks t) p
    deltas : (i : ℕ) → at c (reduce s.committed i) ≡ some (place.Back None) → ⊥
    mapped : (i : ℕ) → (job.course d.cuts).is_task (map_task s.committed i) ≡ true → i < length c.maps

  -- those of an epoch that runs
  dealt_first : (b : Bool) → d.cuts (planned_by b s.committed) ≡ s.to → is_open (first_by b r s) ≡ true → AreDealt (first_by b r s)
  dealt_first false to open_ = absurd (true≢false (sym open_ ∙ le-ltb s.committed s.committed (omega arith)))
  dealt_first true to open_ = record {
    tasks = λ t p epoch here. by_kind t.kind t p refl epoch here;
    deltas = λ i here. back_no_more (replicate_at r.partitions i (first_place true) (place.Back None) here);
    mapped = λ i is. (let b = line_below s.from s.to i (sym (map_is i) ∙ is) in let l = dealt_length s.from s.to in omega arith);
  }
    where
      map_is : (i : ℕ) → (job.course d.cuts).is_task (map_task s.committed i) ≡ has_line_at s.from s.to i
      map_is i = terms.maps d.cuts s.committed i ∙ (λ j. has_line_at (from j) (to j) i)

      as_task : (k : Kind) (t : TaskId) → t.kind ≡ k → t.epoch ≡ s.committed → t ≡ record { epoch = s.committed; kind = k; number = t.number }
      as_task k t same epoch = λ i. record { epoch = epoch i; kind = same i; number = t.number }

      by_kind : (k : Kind) (t : TaskId) (p : Place) → t.kind ≡ k → t.epoch ≡ s.committed → get_elem? (tasks_of k (first_by true r s)) t.number ≡ some p → ShowsAt (job.course d.cuts) t (d.tasks t) p
      by_kind kind.Map t p same epoch here =
          let it = as_task kind.Map t same epoch in
          let task_is = ap (job.course d.cuts).is_task it ∙ map_is t.number in
          elim (dealt_at s.from s.to t.number p here) [
            | inl x ↦ shows_it t p x.0 (task_is ∙ x.1)
            | inr x ↦ subst (ShowsAt (job.course d.cuts) t (d.tasks t)) (sym x.0) (task_is ∙ x.1)
          ]
      by_kind kind.Reduce t p same epoch here =
          let it = as_task kind.Reduce t same epoch in
          let task_is = ap (job.course d.cuts).is_task it ∙ terms.reduces d.cuts s.committed t.number in
          let below : t.number < r.partitions = (let a = at_length (replicate r.partitions (first_place true)) t.number p here in let l = replicate_length r.partitions (first_place true) in omega arith) in
          shows_it t p (replicate_at r.partitions t.number (first_place true) p here) (task_is ∙ lt-ltb t.number r.partitions below)
      by_kind kind.Out t p same epoch here =
          let o = one_at place.Waits p t.number here in
          let it : t ≡ out_task s.committed = (λ i. record { epoch = epoch i; kind = same i; number = o.0 i }) in
          shows_it t p o.1 (ap (job.course d.cuts).is_task it ∙ terms.outs d.cuts s.committed)
      by_kind kind.Upkeep t p same epoch here = absurd (some-ne-none p (sym here))

  pub shows_first : (b : Bool) → d.planned ≡ planned_by b s.committed → d.cuts (planned_by b s.committed) ≡ s.to → (b ≡ false → s.due ≡ next d.cuts s.committed) → Shows job r next terms (first_by b r s) d
  shows_first b planned to due = record {
    planned = planned;
    committed = committed;
    starts = begins;
    ends = to;
    proper = subst (λ (n : ℕ). AreProper job d.cuts n) planned op.1;
    settled = λ h q other there. op.3 q ∙ sym (op.2 q) ∙ there;
    plan_there = λ e less. there_of (name.Plan e) (plan_file b planned e less);
    plan_settled = λ o f. sure_of (name.Plan s.committed) (plan_file b planned s.committed (ltb-true s.committed (planned_by b s.committed) o));
    commits = λ e less. there_of (name.Commit e) (commit_file e less);
    written = λ o w. absurd (true≢false (sym w));
    tasks = λ o. (dealt_first b to o).tasks;
    deltas = λ o run i less here. absurd ((dealt_first b to o).deltas i here);
    reduced = λ o. inl (op.4 (out_task s.committed));
    mapped = λ o. (dealt_first b to o).mapped;
    claimed = λ t epoch. inl (op.4 t);
    later = λ t le. op.4 t;
    whole = λ run t e. waits_failed (sym (op.4 t) ∙ e);
    has_lines = λ o h. (λ i. has_line (from i) (to i)) ∙ h;
    due = due_by b due;
  }
    where
      due_by : (b : Bool) → (b ≡ false → s.due ≡ next d.cuts s.committed) → is_open (first_by b r s) ≡ false → s.due ≡ next d.cuts (planned_by b s.committed)
      due_by false due h = due refl
      due_by true due h = absurd (true≢false (sym (lt-ltb s.committed (s.committed + 1) (omega arith)) ∙ h))

-- The shelf of all files of the state that are there shows what was opened.
module _ (job : Job) (r : Scope) (s : Start) (files : Files) (d : Desk) (shelf : Shelf) (committed : d.committed ≡ s.committed) (op : opened job files d) (begins : IsFirstShelf files shelf) where
  first_names : (q : Name) → is_state q ≡ true → is_some (files q) ≡ is_among (there_in shelf) q
  first_names q is = sym (begins.names q is) ∙ sym (ap (λ (l : List Name). is_among (shelf.settled ++ l) q) begins.news ∙ among_end shelf.settled q)

  first_sure : (q : Name) → is_state q ≡ true → d.sure q ≡ is_among shelf.settled q
  first_sure q is = op.3 q ∙ sym (begins.names q is)

  -- which commits are there
  commit_at : (e : ℕ) → is_some (files (name.Commit e)) ≡ nat_lt e s.committed
  commit_at e = by (nat_lt e s.committed) refl (is_some (files (name.Commit e))) refl
    where
      by : (b : Bool) → nat_lt e s.committed ≡ b → (there : Bool) → is_some (files (name.Commit e)) ≡ there → there ≡ b
      by true less there is = sym (sym (op.0.needed (name.Commit e) (ap (λ (n : ℕ). nat_lt e n) committed ∙ less)) ∙ is)
      by false other true is = sym (op.0.allowed (name.Commit e) is) ∙ ap (λ (n : ℕ). nat_lt e n) committed ∙ other
      by false other false is = refl

  pub shelf_first : (b : Bool) → ShowsShelf (first_by b r s) shelf d
  shelf_first b = record {
    names = λ q is. op.2 q ∙ first_names q is;
    sure = first_sure;
    acknowledged = λ e. op.3 (name.Commit e) ∙ commit_at e ∙ sym (ap (λ (l : Option ℕ). is_up_to l e) (settled_last (first_by b r s) refl) ∙ up_to_is s.committed e);
    commits = λ e above. op.2 (name.Commit e) ∙ commit_at e ∙ le-ltb e s.committed above;
    tidy = λ h p v there. op.3 (name.Snapshot p v) ∙ sym (op.2 (name.Snapshot p v)) ∙ there;
    claimed = λ p v is. absurd (true≢false (sym is ∙ ap (λ (l : List Name). is_among l (name.Snapshot p v)) begins.claimed));
    kept = λ run p v. inl (op.4 (upkeep p v));
  }
