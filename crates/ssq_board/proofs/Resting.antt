-- On one thread something can always be done, as long as the round is not over and not stopped.
use Rattle.std.proofs.Common.{◌≡◌, ◌⊎◌, ◌+◌, ◌&&◌, ◌||◌, not, nat_lt, ℕ, zero, suc, Bool, true, false, true≢false, List, [], ◌∷◌, map, length, set, replicate, Option, Some, None, if◌then◌else◌, sym, refl, ap, ◌∙◌, subst, inl, inr, arith, le-ltb}
use Rattle.std.specs.List.{list_all, list_any}
use Rattle.std.proofs.lemmas.Bool.{or_parts, and_parts}
use borrow.Author.Tests.{not-true}
use mathlib.Core.Option.{some, some-ne-none}
use lib.ListN.{get_elem?}
use Rattle.ssq_outside.specs.declared.gate.TaskId.{TaskId}
use Rattle.ssq_outside.specs.declared.gate.Kind.{Kind}
use Rattle.ssq_outside.specs.declared.gate.Kind.TheVariants as kind
use Rattle.ssq_core.specs.Course.{Ends}
use Rattle.ssq_board.specs.declared.front.Cause.{Cause}
use Rattle.ssq_board.specs.declared.front.Place.{Place}
use Rattle.ssq_board.specs.declared.front.Place.TheVariants as place
use Rattle.ssq_board.specs.declared.front.Entry.TheVariants as entry
use Rattle.ssq_board.specs.declared.front.Ready.TheVariants as ready
use Rattle.ssq_board.specs.Core.{Scope, Core, next_ends, dealt, is_waiting, is_fine, is_here, is_open, is_stopped, is_more, fault_at, fault_in, worse, due_of, due_stop, or_stop, tasks_of, with_tasks, moved, if_out, May, after, after_all, ready_tasks, ready_of}
use Rattle.ssq_board.specs.Shown.{Start, first, first_by, first_place, IsSound}
use Rattle.ssq_board.specs.Rounds.{Comes, brings_rows, works, Worked, Versioned, is_away, IsAtRest}
use Rattle.ssq_board.proofs.Sounds.{running_of}
use Rattle.ssq_board.proofs.Readies.{past, chosen}

-- where no task waits or is away, each is here
here_all : (ps : List Place) → list_any is_waiting ps ≡ false → list_any is_away ps ≡ false → list_all is_here ps ≡ true
here_all [] w a = refl
here_all (p ∷ ps) w a =
    let w2 = or_parts (is_waiting p) (list_any is_waiting ps) w in
    let a2 = or_parts (is_away p) (list_any is_away ps) a in
    (λ i. one p w2.0 a2.0 i && here_all ps w2.1 a2.1 i)
  where
    one : (p : Place) → is_waiting p ≡ false → is_away p ≡ false → is_here p ≡ true
    one place.Rests w a = refl
    one place.Waits w a = absurd (true≢false w)
    one place.Away w a = absurd (true≢false a)
    one (place.Back f) w a = refl

some_none : {A : Type 0} (f : A) → Some f ≡ None → ⊥
some_none f e = cc

no_fault : (o p : Option Cause) → worse o p ≡ None → (o ≡ None) × (p ≡ None)
no_fault None p e = (refl, e)
no_fault (Some f) None e = absurd (some_none f e)
no_fault (Some f) (Some g) e = absurd (cc)

-- where all are here and none has a fault, all are fine
fine_all : (ps : List Place) → list_all is_here ps ≡ true → fault_in ps ≡ None → list_all is_fine ps ≡ true
fine_all [] h f = refl
fine_all (p ∷ ps) h f =
    let n = no_fault (fault_at p) (fault_in ps) f in
    let b = and_parts (is_here p) (list_all is_here ps) h in
    (λ i. one p b.0 n.0 i && fine_all ps b.1 n.1 i)
  where
    one : (p : Place) → is_here p ≡ true → fault_at p ≡ None → is_fine p ≡ true
    one place.Rests h f = refl
    one place.Waits h f = absurd (true≢false (sym h))
    one place.Away h f = absurd (true≢false (sym h))
    one (place.Back None) h f = refl
    one (place.Back (Some g)) h f = absurd (some_none g f)

none_due : (all : Bool) (o : Option Cause) → all ≡ true → due_of all o ≡ None → o ≡ None
none_due true None e h = refl
none_due true (Some f) e h = absurd (some_none f h)
none_due false o e h = absurd (true≢false (sym e))

-- a phase in which nothing waits or is away, and that has no cause to stop, is done
phase_done : (ps : List Place) → list_any is_waiting ps ≡ false → list_any is_away ps ≡ false → due_stop ps ≡ None → list_all is_fine ps ≡ true
phase_done ps w a calm = let h = here_all ps w a in fine_all ps h (none_due (list_all is_here ps) (fault_in ps) h calm)

module _ (r : Scope) (c : Core) (sound : IsSound r c) (rest : IsAtRest c) where
  tasks_idle : c.front.stop ≡ None → is_open c ≡ true → ready_tasks c ≡ ready.Idle → ⊥
  tasks_idle running opened e =
      let a = past (not c.front.fresh) _ _ _ e (λ x. cc) in
      let b = past (list_any is_waiting c.maps) _ _ _ a.1 (λ x. cc) in
      elim (chosen (not (list_all is_fine c.maps)) _ _ _ b.1) [
        | inl stuck ↦ true≢false (sym (phase_done c.maps b.0 (rest.here kind.Map) (sound.calm running kind.Map)) ∙ not-true (list_all is_fine c.maps) stuck.0)
        | inr d ↦
            let f = past (list_any is_waiting c.reduces) _ _ _ d.1 (λ x. cc) in
            elim (chosen (not (list_all is_fine c.reduces)) _ _ _ f.1) [
              | inl stuck ↦ true≢false (sym (phase_done c.reduces f.0 (rest.here kind.Reduce) (sound.calm running kind.Reduce)) ∙ not-true (list_all is_fine c.reduces) stuck.0)
              | inr g ↦
                  let h = past (list_any is_waiting c.outs) _ _ _ g.1 (λ x. cc) in
                  elim (chosen (not c.front.written) _ _ _ h.1) [
                    | inl unwritten ↦ elim (rest.outs opened running) [
                      | inl waits ↦ true≢false (sym (ap (list_any is_waiting) waits) ∙ h.0)
                      | inr written ↦ true≢false (sym written ∙ not-true c.front.written unwritten.0)
                    ]
                    | inr k ↦ elim (chosen c.front.settled ready.Commit ready.Sync ready.Idle k.1) [ inl x ↦ (let y = x.1 in cc) | inr x ↦ (let y = x.1 in cc) ]
                  ]
            ]
      ]

  pub never_idle : ready_of r c ≡ ready.Idle → ⊥
  never_idle e =
      let a = past (is_stopped c.front.stop) _ _ _ e (λ x. cc) in
      elim (chosen (is_open c) (ready_tasks c) _ _ a.1) [
        | inl opened ↦ tasks_idle (running_of c.front.stop a.0) opened.0 opened.1
        | inr closed ↦
            let b = past (not c.front.settled) _ _ _ closed.1 (λ x. cc) in
            elim (chosen (is_more r c) ready.Plan ready.Over ready.Idle b.1) [ inl x ↦ (let y = x.1 in cc) | inr x ↦ (let y = x.1 in cc) ]
      ]

-- nobody has a task that was just dealt
dealt_here : (fs ts : Ends) → list_any is_away (dealt fs ts) ≡ false
dealt_here [] ts = refl
dealt_here (f ∷ fs) [] = dealt_here fs []
dealt_here (f ∷ fs) (t ∷ ts) = (λ i. by (nat_lt f.end t.end) i || dealt_here fs ts i)
  where
    by : (b : Bool) → is_away (if b then place.Waits else place.Rests) ≡ false
    by true = refl
    by false = refl

wait_here : {A : Type 0} (l : List A) → list_any is_away (map (λ _. place.Waits) l) ≡ false
wait_here [] = refl
wait_here (x ∷ xs) = wait_here xs

-- a task that went and came back
back_here : (ps : List Place) (i : ℕ) (p : Place) (f : Option Cause) → list_any is_away ps ≡ false → list_any is_away (set (set ps i p) i (place.Back f)) ≡ false
back_here [] i p f h = refl
back_here (q ∷ qs) zero p f h = (or_parts (is_away q) (list_any is_away qs) h).1
back_here (q ∷ qs) (suc i) p f h = let b = or_parts (is_away q) (list_any is_away qs) h in (λ j. b.0 j || back_here qs i p f b.1 j)

-- an entry that moves no task
pub front_here : (c n : Core) → n.maps ≡ c.maps → n.reduces ≡ c.reduces → n.outs ≡ c.outs → ((k : Kind) → list_any is_away (tasks_of k c) ≡ false) → (k : Kind) → list_any is_away (tasks_of k n) ≡ false
front_here c n m u o h kind.Map = ap (list_any is_away) m ∙ h kind.Map
front_here c n m u o h kind.Reduce = ap (list_any is_away) u ∙ h kind.Reduce
front_here c n m u o h kind.Out = ap (list_any is_away) o ∙ h kind.Out
front_here c n m u o h kind.Upkeep = refl

plan_rests : (r : Scope) (c : Core) (e : ℕ) → IsAtRest (after r c (entry.Plan e))
plan_rests r c e = record { here = here; outs = λ o run. inl refl }
  where
    here : (k : Kind) → list_any is_away (tasks_of k (after r c (entry.Plan e))) ≡ false
    here kind.Map = dealt_here c.ends (next_ends r.cap c.ends r.available)
    here kind.Reduce = wait_here c.reduces
    here kind.Out = refl
    here kind.Upkeep = refl

sync_rests : (r : Scope) (c : Core) (clock : ℕ) → c.front.stop ≡ None → IsAtRest c → IsAtRest (after r c (entry.Sync clock))
sync_rests r c clock running rest = record { here = front_here c (after r c (entry.Sync clock)) refl refl refl rest.here; outs = λ o run. rest.outs o running }

commit_rests : (r : Scope) (c : Core) (e : ℕ) (b : Bool) → IsSound r c → IsAtRest c → IsAtRest (after r c (entry.Commit e b))
commit_rests r c e b sound rest = record {
  here = front_here c (after r c (entry.Commit e b)) refl refl refl rest.here;
  outs = λ o run. absurd (true≢false (sym o ∙ le-ltb (c.front.committed + 1) c.front.planned sound.near));
}

-- a task was claimed and is back: nobody has one
pub back_all : (c : Core) (t : TaskId) (f : Option Cause) → ((k : Kind) → list_any is_away (tasks_of k c) ≡ false) → (k : Kind) → list_any is_away (tasks_of k (moved (moved c t place.Away) t (place.Back f))) ≡ false
back_all c t f h = by t.kind
  where
    by : (j k : Kind) → list_any is_away (tasks_of k (with_tasks j (with_tasks j c (set (tasks_of j c) t.number place.Away)) (set (tasks_of j (with_tasks j c (set (tasks_of j c) t.number place.Away))) t.number (place.Back f)))) ≡ false
    by kind.Map kind.Map = back_here c.maps t.number place.Away f (h kind.Map)
    by kind.Reduce kind.Reduce = back_here c.reduces t.number place.Away f (h kind.Reduce)
    by kind.Out kind.Out = back_here c.outs t.number place.Away f (h kind.Out)
    by j kind.Upkeep = refl
    by kind.Map kind.Reduce = h kind.Reduce
    by kind.Map kind.Out = h kind.Out
    by kind.Reduce kind.Map = h kind.Map
    by kind.Reduce kind.Out = h kind.Out
    by kind.Out kind.Map = h kind.Map
    by kind.Out kind.Reduce = h kind.Reduce
    by kind.Upkeep kind.Map = h kind.Map
    by kind.Upkeep kind.Reduce = h kind.Reduce
    by kind.Upkeep kind.Out = h kind.Out

pub work_here : (r : Scope) (c : Core) (t : TaskId) (f : Option Cause) → ((k : Kind) → list_any is_away (tasks_of k c) ≡ false) → (k : Kind) → list_any is_away (tasks_of k (after r (after r c (entry.Claim t)) (entry.Report t f))) ≡ false
work_here r c t f h = front_here (moved (moved c t place.Away) t (place.Back f)) (after r (after r c (entry.Claim t)) (entry.Report t f)) refl refl refl (back_all c t f h)

-- an out task that met a fault stops the desk
out_stops : (ps : List Place) (i : ℕ) (f : Cause) → length ps ≡ 1 → get_elem? ps i ≡ some place.Waits → due_stop (set (set ps i place.Away) i (place.Back (Some f))) ≡ Some f
out_stops [] i f one here = absurd (omega (arith, one))
out_stops (p ∷ q ∷ qs) i f one here = absurd (omega (arith, one))
out_stops (p ∷ []) zero f one here = refl
out_stops (p ∷ []) (suc i) f one here = absurd (some-ne-none place.Waits (sym here))

-- the out tasks after one of another kind
same_outs : (r : Scope) (c : Core) (t : TaskId) (f : Option Cause) (k : Kind) → t.kind ≡ k → (k ≡ kind.Out → ⊥) → (after r (after r c (entry.Claim t)) (entry.Report t f)).outs ≡ c.outs
same_outs r c t f k is other = ap (λ j. if_out j (set (tasks_of j (with_tasks j c (set (tasks_of j c) t.number place.Away))) t.number (place.Back f)) (if_out j (set (tasks_of j c) t.number place.Away) c.outs)) is ∙ by k other
  where
    by : (k : Kind) → (k ≡ kind.Out → ⊥) → if_out k (set (tasks_of k (with_tasks k c (set (tasks_of k c) t.number place.Away))) t.number (place.Back f)) (if_out k (set (tasks_of k c) t.number place.Away) c.outs) ≡ c.outs
    by kind.Map other = refl
    by kind.Reduce other = refl
    by kind.Out other = absurd (other refl)
    by kind.Upkeep other = refl

-- an out task that was claimed met a fault: the desk is stopped
out_stopped : (r : Scope) (c : Core) (t : TaskId) (g : Cause) → length c.outs ≡ 1 → c.front.stop ≡ None → t.kind ≡ kind.Out → get_elem? (tasks_of t.kind c) t.number ≡ some place.Waits
    → is_stopped (after r (after r c (entry.Claim t)) (entry.Report t (Some g))).front.stop ≡ true
out_stopped r c t g one running is here = ap is_stopped (stop_is c.front.stop running (by t.kind is here))
  where
    by : (k : Kind) → k ≡ kind.Out → get_elem? (tasks_of k c) t.number ≡ some place.Waits
        → due_stop (set (tasks_of k (with_tasks k c (set (tasks_of k c) t.number place.Away))) t.number (place.Back (Some g))) ≡ Some g
    by kind.Out e here = out_stops c.outs t.number g one here
    by kind.Map e here = absurd (let x = e in cc)
    by kind.Reduce e here = absurd (let x = e in cc)
    by kind.Upkeep e here = absurd (let x = e in cc)

    stop_is : (o : Option Cause) → o ≡ None → {p : Option Cause} → p ≡ Some g → or_stop o (if is_stopped o then None else p) ≡ Some g
    stop_is None e p = p
    stop_is (Some h) e p = absurd (some_none h e)

-- An out task without a fault brings rows, and one with a fault stops the desk.
out_case : (r : Scope) (c : Core) (t : TaskId) (f : Option Cause) → length c.outs ≡ 1 → c.front.stop ≡ None → get_elem? (tasks_of t.kind c) t.number ≡ some place.Waits → brings_rows t.kind f ≡ false → t.kind ≡ kind.Out
    → is_stopped (after r (after r c (entry.Claim t)) (entry.Report t f)).front.stop ≡ false → ⊥
out_case r c t None one running here no_rows is run = true≢false (ap (λ k. brings_rows k None) (sym is) ∙ no_rows)
out_case r c t (Some g) one running here no_rows is run = true≢false (sym (out_stopped r c t g one running is here) ∙ run)

is_out : (k : Kind) → (k ≡ kind.Out) ⊎ (k ≡ kind.Out → ⊥)
is_out kind.Map = inr (λ e. cc)
is_out kind.Reduce = inr (λ e. cc)
is_out kind.Out = inl refl
is_out kind.Upkeep = inr (λ e. cc)

work_rests : (r : Scope) (c : Core) (t : TaskId) (f : Option Cause) (e : ℕ) → IsSound r c → IsAtRest c → May r c (entry.Claim t) → is_stopped (after_all r c (works t f e)).front.stop ≡ false → IsAtRest (after_all r c (works t f e))
work_rests r c t f e sound rest m = by (brings_rows t.kind f) refl
  where
    here : (k : Kind) → list_any is_away (tasks_of k (after r (after r c (entry.Claim t)) (entry.Report t f))) ≡ false
    here = work_here r c t f rest.here

    by : (b : Bool) → brings_rows t.kind f ≡ b → is_stopped (after_all r (after r (after r c (entry.Claim t)) (entry.Report t f)) (if b then entry.OutFile e ∷ [] else [])).front.stop ≡ false
        → IsAtRest (after_all r (after r (after r c (entry.Claim t)) (entry.Report t f)) (if b then entry.OutFile e ∷ [] else []))
    by true rows run = record {
      here = front_here (after r (after r c (entry.Claim t)) (entry.Report t f)) (after r (after r (after r c (entry.Claim t)) (entry.Report t f)) (entry.OutFile e)) refl refl refl here;
      outs = λ o s. inr refl;
    }
    by false no_rows run = record {
      here = here;
      outs = λ o s. elim (is_out t.kind) [
        | inl out ↦ absurd (out_case r c t f (sound.out_there m.1) m.0 m.4 no_rows out run)
        | inr other ↦ elim (rest.outs m.1 m.0) [ inl waits ↦ inl (same_outs r c t f t.kind refl other ∙ waits) | inr written ↦ inr written ]
      ];
    }

-- a reduce task brings its version
version_rests : (r : Scope) (c : Core) (t : TaskId) → IsAtRest c → May r c (entry.Claim t) → t.kind ≡ kind.Reduce → IsAtRest (after r (after r c (entry.Claim t)) (entry.Version t))
version_rests r c t rest m is = record {
  here = front_here (after r (after r c (entry.Claim t)) (entry.Report t None)) (after r (after r c (entry.Claim t)) (entry.Version t)) refl refl refl (work_here r c t None rest.here);
  outs = λ o s. elim (rest.outs m.1 m.0) [ inl waits ↦ inl (same_outs r c t None t.kind refl (λ out. reduce_out (sym is ∙ out)) ∙ waits) | inr written ↦ inr written ];
}
  where
    reduce_out : kind.Reduce ≡ kind.Out → ⊥
    reduce_out e = cc

same_here : (n : ℕ) (b : Bool) → list_any is_away (replicate n (first_place b)) ≡ false
same_here zero b = refl
same_here (suc n) true = same_here n true
same_here (suc n) false = same_here n false

rest_here : {A : Type 0} (l : List A) → list_any is_away (map (λ _. place.Rests) l) ≡ false
rest_here [] = refl
rest_here (x ∷ xs) = rest_here xs

pub first_rests : (r : Scope) (s : Start) → IsAtRest (first r s)
first_rests r s = by s.is_planned
  where
    by : (b : Bool) → IsAtRest (first_by b r s)
    by true = record { here = here; outs = λ o run. inl refl }
      where
        here : (k : Kind) → list_any is_away (tasks_of k (first_by true r s)) ≡ false
        here kind.Map = dealt_here s.from s.to
        here kind.Reduce = same_here r.partitions true
        here kind.Out = refl
        here kind.Upkeep = refl
    by false = record { here = here; outs = λ o run. absurd (true≢false (sym o ∙ le-ltb s.committed s.committed (omega arith))) }
      where
        here : (k : Kind) → list_any is_away (tasks_of k (first_by false r s)) ≡ false
        here kind.Map = rest_here s.to
        here kind.Reduce = same_here r.partitions false
        here kind.Out = refl
        here kind.Upkeep = refl

-- each turn
pub plan_turn : (r : Scope) (c n : Core) (e : ℕ) → Comes r c n (entry.Plan e ∷ []) → IsAtRest n ⊎ (is_stopped n.front.stop ≡ true)
plan_turn r c n e (inl is) = inl (subst IsAtRest (sym is) (plan_rests r c e))
plan_turn r c n e (inr stopped) = inr stopped

pub sync_turn : (r : Scope) (c n : Core) (clock : ℕ) → c.front.stop ≡ None → IsAtRest c → Comes r c n (entry.Sync clock ∷ []) → IsAtRest n ⊎ (is_stopped n.front.stop ≡ true)
sync_turn r c n clock running rest (inl is) = inl (subst IsAtRest (sym is) (sync_rests r c clock running rest))
sync_turn r c n clock running rest (inr stopped) = inr stopped

pub commit_turn : (r : Scope) (c n : Core) (e : ℕ) (b : Bool) → IsSound r c → IsAtRest c → Comes r c n (entry.Commit e b ∷ []) → IsAtRest n ⊎ (is_stopped n.front.stop ≡ true)
commit_turn r c n e b sound rest (inl is) = inl (subst IsAtRest (sym is) (commit_rests r c e b sound rest))
commit_turn r c n e b sound rest (inr stopped) = inr stopped

pub version_turn : (r : Scope) (c n : Core) → IsAtRest c → Versioned r c n → IsAtRest n ⊎ (is_stopped n.front.stop ≡ true)
version_turn r c n rest w = by_end w.3
  where
    by_end : Comes r c n (entry.Claim w.0 ∷ entry.Version w.0 ∷ []) → IsAtRest n ⊎ (is_stopped n.front.stop ≡ true)
    by_end (inl is) = inl (subst IsAtRest (sym is) (version_rests r c w.0 rest w.2 w.1))
    by_end (inr stopped) = inr stopped

pub work_turn : (r : Scope) (c n : Core) → IsSound r c → IsAtRest c → Worked r c n → IsAtRest n ⊎ (is_stopped n.front.stop ≡ true)
work_turn r c n sound rest w = by_end w.3
  where
    by_stop : (b : Bool) → is_stopped (after_all r c (works w.0 w.1 c.front.committed)).front.stop ≡ b
        → IsAtRest (after_all r c (works w.0 w.1 c.front.committed)) ⊎ (is_stopped (after_all r c (works w.0 w.1 c.front.committed)).front.stop ≡ true)
    by_stop true is = inr is
    by_stop false is = inl (work_rests r c w.0 w.1 c.front.committed sound rest w.2 is)

    by_end : Comes r c n (works w.0 w.1 c.front.committed) → IsAtRest n ⊎ (is_stopped n.front.stop ≡ true)
    by_end (inl is) = subst (λ (x : Core). IsAtRest x ⊎ (is_stopped x.front.stop ≡ true)) (sym is) (by_stop (is_stopped (after_all r c (works w.0 w.1 c.front.committed)).front.stop) refl)
    by_end (inr stopped) = inr stopped
