-- One list of the machine's events after another, and what an entry's call did.
use Rattle.std.proofs.Common.{◌≡◌, ◌⊎◌, ◌++◌, ℕ, Bool, false, List, [], ◌∷◌, set, Option, Some, None, if◌then◌else◌, sym, refl, ap, ◌∙◌, subst, inl, inr, arith, le_refl}
use Rattle.ssq_outside.specs.declared.gate.TaskId.{TaskId}
use Rattle.ssq_outside.specs.Files.{Had, Content}
use Rattle.ssq_outside.specs.History.{History, had_now, Elapses}
use Rattle.ssq_core.specs.declared.event.Event.{Event}
use Rattle.ssq_core.specs.declared.event.Event.TheVariants as event
use Rattle.ssq_core.specs.Course.{Course, Cuts, Job}
use Rattle.ssq_core.specs.Machine.{Desk, placed, seals, result_of, Change, nothing, misses, publishes, removes, syncs, Allows, Leaves, IsMarked, MayOn, MayFail, ComesBack, OwesNone}
use Rattle.ssq_core.specs.Machine as machine
use Rattle.ssq_board.specs.declared.front.Cause.{Cause}
use Rattle.ssq_board.specs.declared.front.Place.TheVariants as place
use Rattle.ssq_board.specs.declared.front.Entry.{Entry}
use Rattle.ssq_board.specs.Core.{Scope, Core, is_fine, is_open, is_stopped, is_of_epoch, may_start, at, moved, with_front, tasks_of, due, or_stop, stops, stopped_front, May, after, events_of, events_all, cuts_by}
use Rattle.ssq_board.specs.Core as board
use Rattle.ssq_board.specs.Shelf.{Shelf}
use Rattle.ssq_board.specs.Follows.{Terms, Goes, Tries, IsDone, Shows, ShowsShelf, life_of, shown}

-- a disk to which nothing was done
pub elapses_same : (h : History) (P : Had → Type 0) → Elapses h h P
elapses_same h P = record { later = le_refl h.moment; kept = λ k le. refl; fresh = λ k less le. absurd (omega arith) }

-- a desk never owes a Stop
pub owes_none : (o : Option Cause) → OwesNone (life_of o)
owes_none None t e = cc
owes_none (Some f) t e = cc

-- a desk that runs is not stopped
pub not_over : (o : Option Cause) → o ≡ None → life_of o ≡ machine.stopped → ⊥
not_over None run e = cc
not_over (Some f) run e = cc

-- one list of events after another
pub leads_more : (tells : Type 0) (job : Job) (s : machine.State) (es : List Event) (mid : machine.State) (fs : List Event) (n : machine.State) → machine.Leads tells job s es mid → machine.Leads tells job mid fs n
    → machine.Leads tells job s (es ++ fs) n
leads_more tells job s [] mid fs n l more = subst (λ x. machine.Leads tells job x fs n) (sym l) more
leads_more tells job s (e ∷ es) mid fs n l more = (l.0, l.1, leads_more tells job l.0 es mid fs n l.2 more)

-- what a call that is done may leave at each moment, and what it leaves
pub went : (change : Change) (old new : History) → Goes change old new → Elapses old new (Allows change (had_now old)) × Leaves change (had_now old) (had_now new)
went nothing old new same = subst (λ (h : History). Elapses old h (Allows nothing (had_now old)) × Leaves nothing (had_now old) (had_now h)) (sym same) (elapses_same old (Allows nothing (had_now old)), refl)
went (misses t) old new same =
    subst (λ (h : History). Elapses old h (Allows (misses t) (had_now old)) × Leaves (misses t) (had_now old) (had_now h)) (sym same) (elapses_same old (Allows (misses t) (had_now old)), refl)
went (publishes q bytes) old new g = g
went (removes q) old new g = g
went syncs old new g = g

pub tried : (change : Change) (old new : History) → Tries change old new → Elapses old new (Allows change (had_now old))
tried nothing old new same = subst (λ (h : History). Elapses old h (Allows nothing (had_now old))) (sym same) (elapses_same old (Allows nothing (had_now old)))
tried (misses t) old new same = subst (λ (h : History). Elapses old h (Allows (misses t) (had_now old))) (sym same) (elapses_same old (Allows (misses t) (had_now old)))
tried (publishes q bytes) old new g = g
tried (removes q) old new g = g
tried syncs old new g = g

pub out_not_done : (course : Course) (t : TaskId) (there p : machine.Place) → there ≡ p → ((b : Content) → p ≡ machine.back false b → ⊥) → IsDone course t there → ⊥
out_not_done course t there p is never done = never done.bytes (sym is ∙ done.is)

pub waits_back : (b : Content) → machine.waits ≡ machine.back false b → ⊥
waits_back b e = cc

pub out_failed : machine.out ≡ machine.failed → ⊥
out_failed e = cc

pub out_back : (b : Content) → machine.out ≡ machine.back false b → ⊥
out_back b e = cc

pub back_failed : {b : Bool} {c : Content} {A : Type 0} → machine.back b c ≡ machine.failed → A
back_failed e = absurd (cc)

pub due_why : (c : Core) (t : TaskId) (f : Option Cause) → (due c t f ≡ None) ⊎ (c.front.stop ≡ None)
due_why c t f = by c.front.stop refl
  where
    by : (o : Option Cause) → c.front.stop ≡ o → (due c t f ≡ None) ⊎ (c.front.stop ≡ None)
    by None is = inr is
    by (Some g) is = inl (ap (λ (x : Option Cause). if is_stopped x then None else board.due_stop (set (tasks_of t.kind c) t.number (place.Back f))) is)

module _ (told : Type 0) (job : Job) where
  -- the Stop after a report
  pub report_stops : (start : machine.State) (disk : History) (c : Core) (n : Desk) (pre : List Event) (o : Option Cause) → ((o ≡ None) ⊎ (c.front.stop ≡ None))
      → machine.Leads told job start pre (record { disk = disk; desk = Some n; life = life_of c.front.stop })
      → machine.Leads told job start (pre ++ stops o) (record { disk = disk; desk = Some n; life = life_of (or_stop c.front.stop o) })
  report_stops start disk c n pre None why l =
      leads_more told job start pre (record { disk = disk; desk = Some n; life = life_of c.front.stop }) [] (record { disk = disk; desk = Some n; life = life_of (or_stop c.front.stop None) }) l
      (λ i. record { disk = disk; desk = Some n; life = life_of (or_none c.front.stop i) })
    where
      or_none : (o : Option Cause) → o ≡ or_stop o None
      or_none None = refl
      or_none (Some g) = refl
  report_stops start disk c n pre (Some g) (inl none) l = absurd (some_none none)
    where
      some_none : Some g ≡ None → ⊥
      some_none e = cc
  report_stops start disk c n pre (Some g) (inr run) l =
      leads_more told job start pre (record { disk = disk; desk = Some n; life = life_of c.front.stop }) (event.Stop ∷ []) (record { disk = disk; desk = Some n; life = life_of (or_stop c.front.stop (Some g)) }) l (
        record { disk = disk; desk = Some n; life = machine.stopped },
        (nothing, not_over c.front.stop run, inl refl, (λ t. elapses_same disk (Allows nothing (had_now disk))), refl),
        (λ i. record { disk = disk; desk = Some n; life = life_of (or_stop (sym run i) (Some g)) }),
      )

  module _ (r : Scope) (next : Cuts → ℕ → Bool) (terms : Terms job r next) where
    -- where an entry leads, from a desk that is shown
    abbrev pub Follows : History → Core → Desk → Entry → History → Core → Shelf → Type 0
    Follows old c d e new n k = (d' : Desk) × machine.Leads told job (shown old c d) (events_of c e) (shown new n d') × (d'.cuts ≡ cuts_by r d.cuts c e) × Shows job r next terms n d' × ShowsShelf n k d'
