-- What is so of every state that entries lead to.
use Rattle.std.proofs.Common.{◌≡◌, ◌+◌, ◌≤◌, ◌<◌, ◌&&◌, not, nat_lt, ℕ, zero, suc, Bool, true, false, true≢false, List, [], ◌∷◌, map, length, set, replicate, Option, Some, None, if◌then◌else◌, sym, refl, ap, ◌∙◌, subst, inl, inr, arith, le-ltb, lt-ltb, ltb-true}
use Rattle.std.specs.List.{list_all}
use Rattle.std.proofs.lemmas.Bool.{cases_lt}
use mathlib.Core.Option.{some, some-injective, some-ne-none}
use lib.ListN.{get_elem?}
use Rattle.ssq_outside.specs.declared.gate.TaskId.{TaskId}
use Rattle.ssq_outside.specs.declared.gate.Kind.{Kind}
use Rattle.ssq_outside.specs.declared.gate.Kind.TheVariants as kind
use Rattle.ssq_core.specs.Course.{Ends, Cuts, Job}
use Rattle.ssq_board.specs.declared.front.Cause.{Cause}
use Rattle.ssq_board.specs.declared.front.Cause.TheVariants as cause
use Rattle.ssq_board.specs.declared.front.Front.{Front}
use Rattle.ssq_board.specs.declared.front.Place.{Place}
use Rattle.ssq_board.specs.declared.front.Place.TheVariants as place
use Rattle.ssq_board.specs.declared.front.Entry.{Entry}
use Rattle.ssq_board.specs.declared.front.Entry.TheVariants as entry
use Rattle.ssq_board.specs.Core.{Scope, Core, next_ends, dealt, is_here, is_open, is_stopped, tasks_of, if_map, if_reduce, if_out, with_tasks, moved, with_front, is_of_epoch, worse_by, fault_at, fault_in, worse, due_of, due_stop, or_stop, due, May, stopped_front, version_front, after}
use Rattle.ssq_board.specs.Shown.{Start, first_by, first, first_place, IsStart, IsSound}
use Rattle.ssq_board.specs.Follows.{State, Leads}
use Rattle.ssq_board.proofs.Lists.{set_length, replicate_length, map_length, dealt_length, next_length}

pub open_less : (c : Core) → is_open c ≡ true → c.front.committed < c.front.planned
open_less c e = ltb-true c.front.committed c.front.planned e

pub open_not : (c : Core) → is_open c ≡ false → c.front.planned ≤ c.front.committed
open_not c e = elim (cases_lt c.front.committed c.front.planned) [
  | inl less ↦ absurd (true≢false (sym (lt-ltb c.front.committed c.front.planned less) ∙ e))
  | inr le ↦ le
]

pub running_of : (o : Option Cause) → is_stopped o ≡ false → o ≡ None
running_of None e = refl
running_of (Some f) e = absurd (true≢false e)

-- no place has a fault
no_faults : (ps : List Place) → fault_in ps ≡ None → due_stop ps ≡ None
no_faults ps e = ap (due_of (list_all is_here ps)) e

worse_none : (o p : Option Cause) → o ≡ None → worse o p ≡ p
worse_none o p e = ap (λ x. worse x p) e

dealt_fault : (fs ts : Ends) → fault_in (dealt fs ts) ≡ None
dealt_fault [] ts = refl
dealt_fault (f ∷ fs) [] = dealt_fault fs []
dealt_fault (f ∷ fs) (t ∷ ts) = worse_none (fault_at (if nat_lt f.end t.end then place.Waits else place.Rests)) (fault_in (dealt fs ts)) (by (nat_lt f.end t.end)) ∙ dealt_fault fs ts
  where
    by : (b : Bool) → fault_at (if b then place.Waits else place.Rests) ≡ None
    by true = refl
    by false = refl

wait_fault : {A : Type 0} (l : List A) → fault_in (map (λ _. place.Waits) l) ≡ None
wait_fault [] = refl
wait_fault (x ∷ xs) = wait_fault xs

rest_fault : {A : Type 0} (l : List A) → fault_in (map (λ _. place.Rests) l) ≡ None
rest_fault [] = refl
rest_fault (x ∷ xs) = rest_fault xs

same_fault : (n : ℕ) (b : Bool) → fault_in (replicate n (first_place b)) ≡ None
same_fault zero b = refl
same_fault (suc n) true = same_fault n true
same_fault (suc n) false = same_fault n false

-- a task that is claimed leaves the phase as it was
away_fault : (ps : List Place) (t : ℕ) → get_elem? ps t ≡ some place.Waits → fault_in (set ps t place.Away) ≡ fault_in ps
away_fault [] t e = absurd (some-ne-none place.Waits (sym e))
away_fault (p ∷ ps) zero e = sym (ap (λ x. worse (fault_at x) (fault_in ps)) (some-injective p place.Waits e))
away_fault (p ∷ ps) (suc t) e = ap (worse (fault_at p)) (away_fault ps t e)

and_same : (a : Bool) {b d : Bool} → b ≡ d → (a && b) ≡ (a && d)
and_same a e = ap (λ x. a && x) e

away_here : (ps : List Place) (t : ℕ) → get_elem? ps t ≡ some place.Waits → list_all is_here (set ps t place.Away) ≡ list_all is_here ps
away_here [] t e = absurd (some-ne-none place.Waits (sym e))
away_here (p ∷ ps) zero e = ap (λ x. is_here x && list_all is_here ps) (sym (some-injective p place.Waits e))
away_here (p ∷ ps) (suc t) e = and_same (is_here p) (away_here ps t e)

away_due : (ps : List Place) (t : ℕ) → get_elem? ps t ≡ some place.Waits → due_stop (set ps t place.Away) ≡ due_stop ps
away_due ps t e = (λ i. due_of (away_here ps t e i) (away_fault ps t e i))

first_calm : (b : Bool) (r : Scope) (s : Start) (k : Kind) → due_stop (tasks_of k (first_by b r s)) ≡ None
first_calm true r s kind.Map = no_faults (dealt s.from s.to) (dealt_fault s.from s.to)
first_calm false r s kind.Map = no_faults (map (λ _. place.Rests) s.to) (rest_fault s.to)
first_calm b r s kind.Reduce = no_faults (replicate r.partitions (first_place b)) (same_fault r.partitions b)
first_calm true r s kind.Out = refl
first_calm false r s kind.Out = refl
first_calm b r s kind.Upkeep = refl

pub first_sound : (r : Scope) (s : Start) → IsStart r s → IsSound r (first r s)
first_sound r s is = by s.is_planned
  where
    by : (b : Bool) → IsSound r (first_by b r s)
    by true = record {
      near = omega arith;
      before = omega arith;
      ends = sym is.available;
      maps = dealt_length s.from s.to ∙ is.from ∙ sym is.available;
      reduces = replicate_length r.partitions (first_place true);
      outs = omega arith;
      out_there = λ h. refl;
      calm = λ run. first_calm true r s;
    }
    by false = record {
      near = omega arith;
      before = omega arith;
      ends = sym is.available;
      maps = map_length _ s.to ∙ sym is.available;
      reduces = replicate_length r.partitions (first_place false);
      outs = omega arith;
      out_there = λ h. absurd (true≢false (sym h ∙ le-ltb s.committed s.committed (omega arith)));
      calm = λ run. first_calm false r s;
    }

-- a cause of the outside is the one that counts
first_in : (g : Cause) (o : Option Cause) → is_of_epoch g ≡ false → worse (Some g) o ≡ Some g
first_in g None e = refl
first_in g (Some later) e = ap (λ (b : Bool). Some (worse_by b g later)) e

later_in : (h : Cause) (o : Option Cause) → is_of_epoch h ≡ false → (k : Cause) × (worse o (Some h) ≡ Some k) × (is_of_epoch k ≡ false)
later_in h None e = (h, refl, e)
later_in h (Some first) e = by (is_of_epoch first) refl
  where
    by : (b : Bool) → is_of_epoch first ≡ b → (k : Cause) × (Some (worse_by (is_of_epoch first) first h) ≡ Some k) × (is_of_epoch k ≡ false)
    by true is = (h, ap (λ (b : Bool). Some (worse_by b first h)) is ∙ ap (λ (b : Bool). Some (if b then first else h)) e, e)
    by false is = (first, ap (λ (b : Bool). Some (worse_by b first h)) is, is)

outside_in : (ps : List Place) (i : ℕ) (g : Cause) (q : Place) → get_elem? ps i ≡ some q → is_of_epoch g ≡ false → (h : Cause) × (fault_in (set ps i (place.Back (Some g))) ≡ Some h) × (is_of_epoch h ≡ false)
outside_in [] i g q here e = absurd (some-ne-none q (sym here))
outside_in (p ∷ ps) zero g q here e = (g, first_in g (fault_in ps) e, e)
outside_in (p ∷ ps) (suc i) g q here e =
    let l = outside_in ps i g q here e in
    let k = later_in l.0 (fault_at p) l.2 in
    (k.0, ap (worse (fault_at p)) l.1 ∙ k.1, k.2)

due_some : (all : Bool) (h : Cause) → is_of_epoch h ≡ false → due_of all (Some h) ≡ Some h
due_some true h e = refl
due_some false h e = ap (λ (b : Bool). if not b then Some h else None) e

-- a phase with one stops
pub outside_due : (ps : List Place) (i : ℕ) (g : Cause) (q : Place) → get_elem? ps i ≡ some q → is_of_epoch g ≡ false → due_stop (set ps i (place.Back (Some g))) ≡ None → ⊥
outside_due ps i g q here e none =
    let l = outside_in ps i g q here e in
    let now = list_all is_here (set ps i (place.Back (Some g))) in
    is_none l.0 (sym (due_some now l.0 l.2) ∙ sym (ap (due_of now) l.1) ∙ none)
  where
    is_none : (h : Cause) → Some h ≡ None → ⊥
    is_none h e = cc

-- counts are not of the phases
pub front_calm : (c : Core) (f : Front) (k : Kind) → due_stop (tasks_of k c) ≡ None → due_stop (tasks_of k (with_front c f)) ≡ None
front_calm c f kind.Map e = e
front_calm c f kind.Reduce e = e
front_calm c f kind.Out e = e
front_calm c f kind.Upkeep e = e

-- what is so of the lists, after one place changed
module _ (r : Scope) (c : Core) (t : TaskId) (p : Place) (f : Front) (d : IsSound r c) where
  moved_map : (k : Kind) → length (if_map k (set (tasks_of k c) t.number p) c.maps) ≡ length c.maps
  moved_map kind.Map = set_length c.maps t.number p
  moved_map kind.Reduce = refl
  moved_map kind.Out = refl
  moved_map kind.Upkeep = refl

  moved_reduce : (k : Kind) → length (if_reduce k (set (tasks_of k c) t.number p) c.reduces) ≡ length c.reduces
  moved_reduce kind.Map = refl
  moved_reduce kind.Reduce = set_length c.reduces t.number p
  moved_reduce kind.Out = refl
  moved_reduce kind.Upkeep = refl

  moved_out : (k : Kind) → length (if_out k (set (tasks_of k c) t.number p) c.outs) ≡ length c.outs
  moved_out kind.Map = refl
  moved_out kind.Reduce = refl
  moved_out kind.Out = set_length c.outs t.number p
  moved_out kind.Upkeep = refl

  moved_sound : f.planned ≡ c.front.planned → f.committed ≡ c.front.committed → (f.stop ≡ None → (k : Kind) → due_stop (tasks_of k (moved c t p)) ≡ None) → IsSound r (with_front (moved c t p) f)
  moved_sound planned committed calm = record {
    near = (let a = d.near in omega arith);
    before = (let a = d.before in omega arith);
    ends = d.ends;
    maps = moved_map t.kind ∙ d.maps;
    reduces = moved_reduce t.kind ∙ d.reduces;
    outs = (let e = moved_out t.kind in let o = d.outs in omega arith);
    out_there = λ h. moved_out t.kind ∙ d.out_there ((λ i. nat_lt (sym committed i) (sym planned i)) ∙ h);
    calm = λ run k. front_calm (moved c t p) f k (calm run k);
  }

-- the phases after one place changed: its own, and the others as they were
pub moved_due : (c : Core) (t : TaskId) (p : Place) → ((k : Kind) → due_stop (tasks_of k c) ≡ None) → due_stop (set (tasks_of t.kind c) t.number p) ≡ None → (k : Kind) → due_stop (tasks_of k (moved c t p)) ≡ None
moved_due c t p others own = by t.kind own
  where
    by : (j : Kind) → due_stop (set (tasks_of j c) t.number p) ≡ None → (k : Kind) → due_stop (tasks_of k (with_tasks j c (set (tasks_of j c) t.number p))) ≡ None
    by kind.Map own kind.Map = own
    by kind.Reduce own kind.Reduce = own
    by kind.Out own kind.Out = own
    by j own kind.Upkeep = refl
    by kind.Map own kind.Reduce = others kind.Reduce
    by kind.Map own kind.Out = others kind.Out
    by kind.Reduce own kind.Map = others kind.Map
    by kind.Reduce own kind.Out = others kind.Out
    by kind.Out own kind.Map = others kind.Map
    by kind.Out own kind.Reduce = others kind.Reduce
    by kind.Upkeep own kind.Map = others kind.Map
    by kind.Upkeep own kind.Reduce = others kind.Reduce
    by kind.Upkeep own kind.Out = others kind.Out

-- where a report stops nothing, the desk went on and its phase has no cause to stop
pub due_none : (c : Core) (t : TaskId) (f : Option Cause) → or_stop c.front.stop (due c t f) ≡ None → (c.front.stop ≡ None) × (due_stop (set (tasks_of t.kind c) t.number (place.Back f)) ≡ None)
due_none c t f e = by c.front.stop refl e
  where
    by : (o : Option Cause) → c.front.stop ≡ o → or_stop o (if is_stopped o then None else due_stop (set (tasks_of t.kind c) t.number (place.Back f))) ≡ None
        → (c.front.stop ≡ None) × (due_stop (set (tasks_of t.kind c) t.number (place.Back f)) ≡ None)
    by None is e = (is, e)
    by (Some g) is e = absurd (some_none g e)
      where
        some_none : (g : Cause) → Some g ≡ None → ⊥
        some_none g e = cc

pub some_no : (f : Cause) → Some f ≡ None → ⊥
some_no f e = cc

pub never : (o : Option Cause) (f : Cause) → or_stop o (Some f) ≡ None → ⊥
never None f e = some_no f e
never (Some g) f e = some_no g e

-- a Stop is no count of tasks
stopped_sound : (r : Scope) (c : Core) (o : Option Cause) → (o ≡ None → ⊥) → IsSound r c → IsSound r (with_front c (stopped_front c.front o))
stopped_sound r c o over d = record { near = d.near; before = d.before; ends = d.ends; maps = d.maps; reduces = d.reduces; outs = d.outs; out_there = d.out_there; calm = λ run. absurd (over run) }

pub step_sound : (r : Scope) (c : Core) (e : Entry) → May r c e → IsSound r c → IsSound r (after r c e)
step_sound r c (entry.Plan e) m d = (let o = open_not c m.2 in record {
  near = (let a = d.near in omega arith);
  before = (let a = d.before in omega arith);
  ends = next_length r.cap c.ends r.available ∙ d.ends;
  maps = dealt_length c.ends _ ∙ d.ends;
  reduces = map_length _ c.reduces ∙ d.reduces;
  outs = omega arith;
  out_there = λ h. refl;
  calm = λ run. calm;
})
  where
    calm : (k : Kind) → due_stop (tasks_of k (after r c (entry.Plan e))) ≡ None
    calm kind.Map = no_faults (dealt c.ends (next_ends r.cap c.ends r.available)) (dealt_fault c.ends (next_ends r.cap c.ends r.available))
    calm kind.Reduce = no_faults (map (λ _. place.Waits) c.reduces) (wait_fault c.reduces)
    calm kind.Out = refl
    calm kind.Upkeep = refl
step_sound r c (entry.Claim t) m d = moved_sound r c t place.Away c.front d refl refl (λ run. moved_due c t place.Away (d.calm run) (away_due (tasks_of t.kind c) t.number m.4 ∙ d.calm run t.kind))
step_sound r c (entry.Report t f) m d =
    moved_sound r c t (place.Back f) (stopped_front c.front (or_stop c.front.stop (due c t f))) d refl refl (λ run. let n = due_none c t f run in moved_due c t (place.Back f) (d.calm n.0) n.1)
step_sound r c (entry.Version t) m d =
    moved_sound r c t (place.Back None) (version_front c.front (or_stop c.front.stop (due c t None))) d refl refl (λ run. let n = due_none c t None run in moved_due c t (place.Back None) (d.calm n.0) n.1)
step_sound r c (entry.Missed t) m d = moved_sound r c t (place.Back (Some cause.DiskFault)) (stopped_front c.front (Some cause.DiskFault)) d refl refl (λ run. absurd (some_none run))
  where
    some_none : Some cause.DiskFault ≡ None → ⊥
    some_none e = cc
step_sound r c (entry.OutFile e) m d = record { near = d.near; before = d.before; ends = d.ends; maps = d.maps; reduces = d.reduces; outs = d.outs; out_there = d.out_there; calm = λ run k. front_calm c (after r c (entry.OutFile e)).front k (d.calm m.0 k) }
step_sound r c (entry.Sync clock) m d = record { near = d.near; before = d.before; ends = d.ends; maps = d.maps; reduces = d.reduces; outs = d.outs; out_there = d.out_there; calm = λ run k. front_calm c (after r c (entry.Sync clock)).front k (d.calm m k) }
step_sound r c (entry.Commit e due) m d = (let o = open_less c m.2 in record {
  near = (let a = d.near in omega arith);
  before = omega arith;
  ends = d.ends;
  maps = d.maps;
  reduces = d.reduces;
  outs = d.outs;
  out_there = λ h. absurd (true≢false (sym h ∙ le-ltb (c.front.committed + 1) c.front.planned d.near));
  calm = λ run k. front_calm c (after r c (entry.Commit e due)).front k (d.calm m.0 k);
})
step_sound r c (entry.Upkeep p v) m d = d
step_sound r c (entry.Snapshot p v) m d = d
step_sound r c (entry.Drop q) m d = d
step_sound r c (entry.Unmade p v f) m d = stopped_sound r c (or_stop c.front.stop (Some f)) (never c.front.stop f) d
step_sound r c (entry.Untaken p v) m d = stopped_sound r c (Some cause.DiskFault) (some_no cause.DiskFault) d
step_sound r c (entry.Undropped q) m d = stopped_sound r c (Some cause.DiskFault) (some_no cause.DiskFault) d
step_sound r c (entry.Stop f) m d = record { near = d.near; before = d.before; ends = d.ends; maps = d.maps; reduces = d.reduces; outs = d.outs; out_there = d.out_there; calm = λ run k. front_calm c (after r c (entry.Stop f)).front k (d.calm m.0 k) }

pub run_sound : (tells : Type 0) (job : Job) (r : Scope) (due : Cuts → ℕ → Bool) (es : List Entry) (a n : State) → Leads tells job r due a es n → IsSound r a.core → IsSound r n.core
run_sound tells job r due [] a n l d = subst (λ (x : State). IsSound r x.core) l d
run_sound tells job r due (e ∷ es) a n l d = run_sound tells job r due es l.0 n l.2 (subst (IsSound r) (sym l.1.core) (step_sound r a.core e l.1.may d))
