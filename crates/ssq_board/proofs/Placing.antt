-- A task that leaves the desk or comes back: the desk still shows the machine's.
use Rattle.std.proofs.Common.{◌≡◌, ◌≢◌, ◌⊎◌, ◌≤◌, ◌<◌, ◌&&◌, ◌==◌, nat_lt, ℕ, Bool, true, false, true≢false, List, length, set, Option, Some, None, is_some, if◌then◌else◌, sym, refl, ap, ◌∙◌, subst, inl, inr, arith, rules, ltb-true}
use Rattle.std.specs.List.{list_all}
use mathlib.Core.Option.{some, some-injective, some-ne-none}
use lib.ListN.{get_elem?}
use Rattle.ssq_outside.specs.declared.name.Name.{Name}
use Rattle.ssq_outside.specs.declared.name.Name.TheVariants as name
use Rattle.ssq_outside.specs.declared.gate.TaskId.{TaskId}
use Rattle.ssq_outside.specs.declared.gate.Kind.{Kind}
use Rattle.ssq_outside.specs.declared.gate.Kind.TheVariants as kind
use Rattle.ssq_core.specs.Course.{Course, Cuts, Job}
use Rattle.ssq_core.specs.Machine.{Desk, same_kind, same_task, placed, out_task, IsBack, AreBack, IsRunning, reduce}
use Rattle.ssq_core.specs.Machine as machine
use Rattle.ssq_core.proofs.Tasks.{same_task-true, same_task-same}
use Rattle.ssq_board.specs.declared.front.Cause.{Cause}
use Rattle.ssq_board.specs.declared.front.Front.{Front}
use Rattle.ssq_board.specs.declared.front.Place.{Place}
use Rattle.ssq_board.specs.declared.front.Place.TheVariants as place
use Rattle.ssq_board.specs.Core.{Scope, Core, tasks_of, if_map, with_tasks, at, moved, with_front, is_open, is_fine, stopped_front}
use Rattle.ssq_board.specs.Shown.{IsSound}
use Rattle.ssq_board.specs.Follows.{Terms, map_task, IsDone, ShowsAt, AreThere, is_snapshot, Shows}
use Rattle.ssq_board.proofs.Lists.{put_here, put_else, set_length, there_at, all_fine}
use Rattle.ssq_board.proofs.Sounds.{open_less}

pub done_back : (course : Course) (t : TaskId) (there : machine.Place) → IsDone course t there → IsBack course t there
done_back course t there d = record { bytes = d.bytes; is = d.is; has = λ s. has d.bytes (d.has s) }
  where
    has : (o : Option (List ℕ)) {b : List ℕ} → o ≡ Some b → is_some o ≡ true
    has o e = ap is_some e

-- where a task is that was placed
pub placed_at : (t : TaskId) (p : machine.Place) (d : Desk) → (placed t p d).tasks t ≡ p
placed_at t p d = ap (λ (b : Bool). if b then p else d.tasks t) (same_task-same t)

-- a task that is placed twice
pub placed_twice : (t : TaskId) (p q : machine.Place) (d : Desk) → placed t q (placed t p d) ≡ placed t q d
placed_twice t p q d = λ i. record { cuts = d.cuts; planned = d.planned; committed = d.committed; there = d.there; sure = d.sure; tasks = (λ u. by (same_task u t) (d.tasks u) i); stores = d.stores }
  where
    by : (b : Bool) (z : machine.Place) → (if b then q else (if b then p else z)) ≡ (if b then q else z)
    by true z = refl
    by false z = refl

number_other : (a b : ℕ) → (a == b) ≡ false → a ≢ b
number_other a b h e = grind (arith, rules)

number_same : (a b : ℕ) → a ≡ b → (a == b) ≡ true
number_same a b e = grind (arith, rules)

-- another task of the epoch is where it was
pub at_else : (c : Core) (t u : TaskId) (p : Place) → u.epoch ≡ t.epoch → same_task u t ≡ false → at (moved c t p) u ≡ at c u
at_else c t u p epoch other = by t.kind u.kind (λ k. number_other u.number t.number (last k))
  where
    last : same_kind u.kind t.kind ≡ true → (u.number == t.number) ≡ false
    last k = (λ i. (sym k i) && (sym (number_same u.epoch t.epoch epoch) i && (u.number == t.number))) ∙ other

    by : (j k : Kind) → (same_kind k j ≡ true → u.number ≢ t.number) → get_elem? (tasks_of k (with_tasks j c (set (tasks_of j c) t.number p))) u.number ≡ get_elem? (tasks_of k c) u.number
    by kind.Map kind.Map n = put_else c.maps t.number u.number p (n refl)
    by kind.Reduce kind.Reduce n = put_else c.reduces t.number u.number p (n refl)
    by kind.Out kind.Out n = put_else c.outs t.number u.number p (n refl)
    by j kind.Upkeep n = refl
    by kind.Map kind.Reduce n = refl
    by kind.Map kind.Out n = refl
    by kind.Reduce kind.Map n = refl
    by kind.Reduce kind.Out n = refl
    by kind.Out kind.Map n = refl
    by kind.Out kind.Reduce n = refl
    by kind.Upkeep kind.Map n = refl
    by kind.Upkeep kind.Reduce n = refl
    by kind.Upkeep kind.Out n = refl

-- the task itself is where it was put
pub at_here : (c : Core) (t : TaskId) (q p : Place) → at c t ≡ some q → at (moved c t p) t ≡ some p
at_here c t q p here = by t.kind here
  where
    by : (k : Kind) → get_elem? (tasks_of k c) t.number ≡ some q → get_elem? (tasks_of k (with_tasks k c (set (tasks_of k c) t.number p))) t.number ≡ some p
    by kind.Map e = put_here c.maps t.number q p e
    by kind.Reduce e = put_here c.reduces t.number q p e
    by kind.Out e = put_here c.outs t.number q p e
    by kind.Upkeep e = absurd (some-ne-none q (sym e))

-- counts are no places
pub same_at : (k : Kind) (c : Core) (f : Front) (i : ℕ) → get_elem? (tasks_of k c) i ≡ get_elem? (tasks_of k (with_front c f)) i
same_at kind.Map c f i = refl
same_at kind.Reduce c f i = refl
same_at kind.Out c f i = refl
same_at kind.Upkeep c f i = refl

maps_still : (c : Core) (t : TaskId) (p : Place) → length (moved c t p).maps ≡ length c.maps
maps_still c t p = by t.kind
  where
    by : (k : Kind) → length (if_map k (set (tasks_of k c) t.number p) c.maps) ≡ length c.maps
    by kind.Map = set_length c.maps t.number p
    by kind.Reduce = refl
    by kind.Out = refl
    by kind.Upkeep = refl

-- What has to be there for a task to go to this place, unless a Stop comes by that: the delta of its partition, where it brought one; and
-- all of the epoch, where it is the out task.
pub record HasBrought (course : Course) (c : Core) (d : Desk) (t : TaskId) (p : Place) (o : Option Cause) : Type 0 where
  pub own : (i : ℕ) → reduce c.front.committed i ≡ t → p ≡ place.Back None → o ≡ None → i < course.keeping → d.there (name.Delta i c.front.committed) ≡ true
  pub all : out_task c.front.committed ≡ t → AreThere course d c.front.committed

-- ---- what changes of a desk that is shown

-- a core with the counts of another, and a desk with the cuts of another
abbrev pub counted : Core → Core → Core
counted c n = record {
  front = record { planned = c.front.planned; committed = c.front.committed; fresh = n.front.fresh; settled = n.front.settled; written = n.front.written; has_lines = c.front.has_lines; due = c.front.due; stop = n.front.stop };
  ends = c.ends;
  maps = n.maps;
  reduces = n.reduces;
  outs = n.outs;
}

abbrev pub cut_as : Desk → Desk → Desk
cut_as d n = record { cuts = d.cuts; planned = d.planned; committed = d.committed; there = n.there; sure = n.sure; tasks = n.tasks; stores = n.stores }

-- what is shown of the files: which of them are settled, and those of plans and commits
pub record ShowsFiles (planned committed : ℕ) (fresh all : Bool) (there sure : Name → Bool) : Type 0 where
  pub settled : all ≡ true → (q : Name) → is_snapshot q ≡ false → there q ≡ true → sure q ≡ true
  pub plan_there : (e : ℕ) → e < planned → there (name.Plan e) ≡ true
  pub plan_settled : nat_lt committed planned ≡ true → fresh ≡ true → sure (name.Plan committed) ≡ true
  pub commits : (e : ℕ) → e < committed → there (name.Commit e) ≡ true

-- and of the tasks, and of what these brought
pub record ShowsTasks (job : Job) (c : Core) (d : Desk) : Type 0 where
  pub written : is_open c ≡ true → c.front.written ≡ true → (d.there (name.Out c.front.committed) ≡ true) × IsDone (job.course d.cuts) (out_task c.front.committed) (d.tasks (out_task c.front.committed))
  pub tasks : is_open c ≡ true → (t : TaskId) (p : Place) → t.epoch ≡ c.front.committed → at c t ≡ some p → ShowsAt (job.course d.cuts) t (d.tasks t) p
  pub deltas : is_open c ≡ true → c.front.stop ≡ None → (p : ℕ) → p < (job.course d.cuts).keeping → at c (reduce c.front.committed p) ≡ some (place.Back None) → d.there (name.Delta p c.front.committed) ≡ true
  pub reduced : is_open c ≡ true → (d.tasks (out_task c.front.committed) ≡ machine.waits) ⊎ AreThere (job.course d.cuts) d c.front.committed
  pub mapped : is_open c ≡ true → (i : ℕ) → (job.course d.cuts).is_task (map_task c.front.committed i) ≡ true → i < length c.maps
  pub claimed : (t : TaskId) → t.epoch ≡ c.front.committed → (d.tasks t ≡ machine.waits) ⊎ (c.front.fresh ≡ true)
  pub later : (t : TaskId) → c.front.planned ≤ t.epoch → d.tasks t ≡ machine.waits
  pub whole : c.front.stop ≡ None → (t : TaskId) → d.tasks t ≡ machine.failed → ⊥

module _ (job : Job) (r : Scope) (due : Cuts → ℕ → Bool) (terms : Terms job r due) where
  pub files_shown : (c : Core) (d : Desk) → Shows job r due terms c d → ShowsFiles c.front.planned c.front.committed c.front.fresh c.front.settled d.there d.sure
  files_shown c d s = record { settled = s.settled; plan_there = s.plan_there; plan_settled = s.plan_settled; commits = s.commits }

  -- where the counts and the cuts stay, files and tasks are all that has to be shown again
  pub shows_else : (c : Core) (d : Desk) (n : Core) (m : Desk) → Shows job r due terms c d → ShowsFiles c.front.planned c.front.committed n.front.fresh n.front.settled m.there m.sure → ShowsTasks job (counted c n) (cut_as d m)
      → Shows job r due terms (counted c n) (cut_as d m)
  shows_else c d n m s files tasks = record {
    planned = s.planned;
    committed = s.committed;
    starts = s.starts;
    ends = s.ends;
    proper = s.proper;
    settled = files.settled;
    plan_there = files.plan_there;
    plan_settled = files.plan_settled;
    commits = files.commits;
    written = tasks.written;
    tasks = tasks.tasks;
    deltas = tasks.deltas;
    reduced = tasks.reduced;
    mapped = tasks.mapped;
    claimed = tasks.claimed;
    later = tasks.later;
    whole = tasks.whole;
    has_lines = s.has_lines;
    due = s.due;
  }

  -- A task of the epoch that runs goes from one place to another, where it wasn't done, and perhaps brings about a Stop: it does where
  -- it comes back after a fault of the outside.
  pub placed_shows : (c : Core) (d : Desk) (t : TaskId) (q p : Place) (there : machine.Place) (o : Option Cause) → is_open c ≡ true → t.epoch ≡ c.front.committed → c.front.fresh ≡ true → at c t ≡ some q
      → (IsDone (job.course d.cuts) t (d.tasks t) → ⊥) → ShowsAt (job.course d.cuts) t there p → HasBrought (job.course d.cuts) c d t p o → (o ≡ None → (c.front.stop ≡ None) × (there ≡ machine.failed → ⊥))
      → Shows job r due terms c d → Shows job r due terms (with_front (moved c t p) (stopped_front c.front o)) (placed t there d)
  placed_shows c d t q p there o opened epoch fresh here never shows has whole s = shows_else c d (with_front (moved c t p) (stopped_front c.front o)) (placed t there d) s (files_shown c d s) (record {
    written = λ o w. ((s.written o w).0, still (s.written o w).1);
    tasks = λ o' u x at_epoch found. by_task u x at_epoch (same_at u.kind (moved c t p) (stopped_front c.front o) u.number ∙ found) (same_task u t) refl;
    deltas = λ o' run i less found. delta run i less (same_at kind.Reduce (moved c t p) (stopped_front c.front o) i ∙ found) (same_task (reduce c.front.committed i) t) refl;
    reduced = λ o'. out_by (same_task (out_task c.front.committed) t) refl;
    mapped = λ o i is. subst (λ (n : ℕ). i < n) (sym (maps_still c t p)) (s.mapped o i is);
    claimed = λ u at_epoch. inr fresh;
    later = λ u le. later u le (same_task u t) refl;
    whole = λ run u. whole_at (whole run) u (same_task u t) refl;
  })
    where
      course : Course
      course = job.course d.cuts

      still : IsDone course (out_task c.front.committed) (d.tasks (out_task c.front.committed)) → IsDone course (out_task c.front.committed) ((placed t there d).tasks (out_task c.front.committed))
      still done = by (same_task (out_task c.front.committed) t) refl
        where
          by : (b : Bool) → same_task (out_task c.front.committed) t ≡ b → IsDone course (out_task c.front.committed) (if same_task (out_task c.front.committed) t then there else d.tasks (out_task c.front.committed))
          by true same = absurd (never (subst (λ (x : TaskId). IsDone course x (d.tasks x)) (same_task-true (out_task c.front.committed) t same) done))
          by false other = rw other done

      by_task : (u : TaskId) (x : Place) → u.epoch ≡ c.front.committed → at (moved c t p) u ≡ some x → (b : Bool) → same_task u t ≡ b → ShowsAt course u (if same_task u t then there else d.tasks u) x
      by_task u x at_epoch found true same =
          let is = same_task-true u t same in
          let place_is : p ≡ x = some-injective p x (sym (at_here c t q p here) ∙ ap (at (moved c t p)) (sym is) ∙ found) in
          rw same (subst (ShowsAt course u there) place_is (subst (λ (v : TaskId). ShowsAt course v there p) (sym is) shows))
      by_task u x at_epoch found false other = rw other (s.tasks opened u x at_epoch (sym (at_else c t u p (at_epoch ∙ sym epoch) other) ∙ found))

      delta : o ≡ None → (i : ℕ) → i < course.keeping → at (moved c t p) (reduce c.front.committed i) ≡ some (place.Back None) → (b : Bool) → same_task (reduce c.front.committed i) t ≡ b → d.there (name.Delta i c.front.committed) ≡ true
      delta run i less found true same =
          let is = same_task-true (reduce c.front.committed i) t same in
          let place_is : p ≡ place.Back None = some-injective p (place.Back None) (sym (at_here c t q p here) ∙ ap (at (moved c t p)) (sym is) ∙ found) in
          has.own i is place_is run less
      delta run i less found false other = s.deltas opened (whole run).0 i less (sym (at_else c t (reduce c.front.committed i) p (sym epoch) other) ∙ found)

      out_by : (b : Bool) → same_task (out_task c.front.committed) t ≡ b
          → ((if same_task (out_task c.front.committed) t then there else d.tasks (out_task c.front.committed)) ≡ machine.waits) ⊎ AreThere course d c.front.committed
      out_by true same = inr (has.all (same_task-true (out_task c.front.committed) t same))
      out_by false other = elim (s.reduced opened) [
        | inl waits ↦ inl (ap (λ (b : Bool). if b then there else d.tasks (out_task c.front.committed)) other ∙ waits)
        | inr all ↦ inr all
      ]

      later : (u : TaskId) → c.front.planned ≤ u.epoch → (b : Bool) → same_task u t ≡ b → (if same_task u t then there else d.tasks u) ≡ machine.waits
      later u le true same = absurd (let o = open_less c opened in let e = ap (λ (x : TaskId). x.epoch) (same_task-true u t same) in omega arith)
      later u le false other = rw other (s.later u le)

      whole_at : (c.front.stop ≡ None) × (there ≡ machine.failed → ⊥) → (u : TaskId) (b : Bool) → same_task u t ≡ b → (if same_task u t then there else d.tasks u) ≡ machine.failed → ⊥
      whole_at w u true same e = w.1 (sym (ap (λ (b : Bool). if b then there else d.tasks u) same) ∙ e)
      whole_at w u false other e = s.whole w.0 u (sym (ap (λ (b : Bool). if b then there else d.tasks u) other) ∙ e)

  -- a Stop is no other place
  pub stopped_shows : (c : Core) (d : Desk) (g : Cause) → Shows job r due terms c d → Shows job r due terms (with_front c (stopped_front c.front (Some g))) d
  stopped_shows c d g s = shows_else c d (with_front c (stopped_front c.front (Some g))) d s (files_shown c d s) (record {
    written = s.written;
    tasks = λ opened t p epoch here. s.tasks opened t p epoch (same_at t.kind c (stopped_front c.front (Some g)) t.number ∙ here);
    deltas = λ opened run. absurd (some_none run);
    reduced = s.reduced;
    mapped = s.mapped;
    claimed = s.claimed;
    later = s.later;
    whole = λ run. absurd (some_none run);
  })
    where
      some_none : Some g ≡ None → ⊥
      some_none e = cc

  -- the maps of the epoch that runs, and its reduces, are back
  fine_back : (c : Core) (d : Desk) (t : TaskId) (p : Place) → Shows job r due terms c d → is_open c ≡ true → t.epoch ≡ c.front.committed → at c t ≡ some p → is_fine p ≡ true
      → (job.course d.cuts).is_task t ≡ true → IsBack (job.course d.cuts) t (d.tasks t)
  fine_back c d t p s opened epoch here fine is = by p fine (s.tasks opened t p epoch here)
    where
      by : (p : Place) → is_fine p ≡ true → ShowsAt (job.course d.cuts) t (d.tasks t) p → IsBack (job.course d.cuts) t (d.tasks t)
      by place.Rests f not_it = absurd (true≢false (sym is ∙ not_it))
      by (place.Back None) f done = done_back (job.course d.cuts) t (d.tasks t) done
      by place.Waits f x = absurd (true≢false (sym f))
      by place.Away f x = absurd (true≢false (sym f))
      by (place.Back (Some g)) f x = absurd (true≢false (sym f))

  pub maps_back : (c : Core) (d : Desk) → Shows job r due terms c d → is_open c ≡ true → list_all is_fine c.maps ≡ true → AreBack (job.course d.cuts) c.front.committed kind.Map d.tasks
  maps_back c d s opened fine t is epoch same =
      subst (λ (x : TaskId). IsBack (job.course d.cuts) x (d.tasks x)) (sym it)
      (let less = s.mapped opened t.number (sym (ap (job.course d.cuts).is_task it) ∙ is) in
      let p = there_at c.maps t.number less in
      fine_back c d (map_task c.front.committed t.number) p.0 s opened refl p.1 (all_fine is_fine c.maps t.number p.0 fine p.1) (sym (ap (job.course d.cuts).is_task it) ∙ is))
    where
      it : t ≡ map_task c.front.committed t.number
      it = λ i. record { epoch = epoch i; kind = same i; number = t.number }

  -- a reduce task of the epoch has its place
  reduce_at : (c : Core) (d : Desk) (p : ℕ) → IsSound r c → (job.course d.cuts).is_task (reduce c.front.committed p) ≡ true → (q : Place) × (at c (reduce c.front.committed p) ≡ some q)
  reduce_at c d p sound task =
      let below = ltb-true p r.partitions (sym (terms.reduces d.cuts c.front.committed p) ∙ task) in
      there_at c.reduces p (let l = sound.reduces in omega arith)

  pub reduces_back : (c : Core) (d : Desk) → IsSound r c → Shows job r due terms c d → is_open c ≡ true → list_all is_fine c.reduces ≡ true → AreBack (job.course d.cuts) c.front.committed kind.Reduce d.tasks
  reduces_back c d sound s opened fine t is epoch same =
      subst (λ (x : TaskId). IsBack (job.course d.cuts) x (d.tasks x)) (sym it)
      (let task = sym (ap (job.course d.cuts).is_task it) ∙ is in
      let p = reduce_at c d t.number sound task in
      fine_back c d (reduce c.front.committed t.number) p.0 s opened refl p.1 (all_fine is_fine c.reduces t.number p.0 fine p.1) task)
    where
      it : t ≡ reduce c.front.committed t.number
      it = λ i. record { epoch = epoch i; kind = same i; number = t.number }

  -- then their deltas are there
  pub deltas_there : (c : Core) (d : Desk) → IsSound r c → Shows job r due terms c d → is_open c ≡ true → c.front.stop ≡ None → list_all is_fine c.reduces ≡ true → AreThere (job.course d.cuts) d c.front.committed
  deltas_there c d sound s opened run fine i less =
      let task = terms.causal.reduces d.cuts c.front.committed i less in
      let p = reduce_at c d i sound task in
      by task p.0 p.1 (all_fine is_fine c.reduces i p.0 fine p.1)
    where
      by : (job.course d.cuts).is_task (reduce c.front.committed i) ≡ true → (q : Place) → at c (reduce c.front.committed i) ≡ some q → is_fine q ≡ true → d.there (name.Delta i c.front.committed) ≡ true
      by task place.Rests here f = absurd (true≢false (sym task ∙ s.tasks opened (reduce c.front.committed i) place.Rests refl here))
      by task (place.Back None) here f = s.deltas opened run i less here
      by task place.Waits here f = absurd (true≢false (sym f))
      by task place.Away here f = absurd (true≢false (sym f))
      by task (place.Back (Some g)) here f = absurd (true≢false (sym f))

  -- the epoch runs
  pub runs : (c : Core) (d : Desk) (e : ℕ) → IsSound r c → Shows job r due terms c d → is_open c ≡ true → c.front.fresh ≡ true → e ≡ c.front.committed → IsRunning d e
  runs c d e sound s opened fresh is = record {
    is = s.committed ∙ sym is;
    planned = (let a = sound.near in let b = open_less c opened in let p = s.planned in omega arith);
    settled = subst (λ (x : ℕ). d.sure (name.Plan x) ≡ true) (sym is) (s.plan_settled opened fresh);
  }
