-- After a task that failed the Stop is next.
use Rattle.std.proofs.Common.{◌≡◌, true, Option, Some, None, refl, ap, sym, ◌∙◌, inl, inr}
use Rattle.ssq_outside.specs.declared.gate.TaskId.{TaskId}
use Rattle.ssq_core.specs.declared.event.Event.{Event}
use Rattle.ssq_core.specs.declared.event.Event.TheVariants as event
use Rattle.ssq_core.specs.Course.{Job}
use Rattle.ssq_core.specs.Machine.{failed, Desk, Life, running, owing, Change, GoesOn, OwesNone, State, MayOn}
use Rattle.ssq_core.specs.Laws.{is_end, is_return, StopIsNext}
use Rattle.ssq_core.proofs.Claims.{some_desk}

owes_not : (life : Life) (t : TaskId) → life ≡ running → life ≡ owing t → ⊥
owes_not life t runs owes = cc

-- what comes of an event on a desk where a Stop is due
abbrev IsDue : Life → Desk → Event → Type 0
IsDue life d e = ((t : TaskId) → life ≡ owing t → is_end e ≡ true) × ((t : TaskId) → d.tasks t ≡ failed → is_return e ≡ true)

goes : (life : Life) (d : Desk) (e : Event) → GoesOn life d → IsDue life d e
goes life d e on = ((λ t owes. absurd (owes_not life t on.runs owes)), (λ t is. absurd (on.whole t is)))

comes_back : (life : Life) (d : Desk) (e : Event) → OwesNone life → is_return e ≡ true → IsDue life d e
comes_back life d e none is = ((λ t owes. absurd (none t owes)), (λ t failed. is))

on_due : (job : Job) (d : Desk) (life : Life) (e : Event) (change : Change) (n : Desk) → MayOn job d life e change n → IsDue life d e
on_due job d life (event.Plan e) change n may = goes life d (event.Plan e) may.1
on_due job d life (event.Claim t) change n may = goes life d (event.Claim t) may.0
on_due job d life (event.Seal t) change n may = comes_back life d (event.Seal t) may.4 refl
on_due job d life (event.Report t) change n (inl may) = comes_back life d (event.Report t) may.3 refl
on_due job d life (event.Report t) change n (inr may) = elim may.2 [
  | inl x ↦ comes_back life d (event.Report t) x.2 refl
  | inr y ↦ elim y [
    | inl x ↦ comes_back life d (event.Report t) (λ u owes. owes_not life u x.1 owes) refl
    | inr x ↦ comes_back life d (event.Report t) (λ u owes. owes_not life u x.1 owes) refl
  ]
]
on_due job d life (event.OutFile e) change n may = goes life d (event.OutFile e) may.1
on_due job d life (event.Sync clock) change n may = goes life d (event.Sync clock) may.0
on_due job d life (event.Commit e) change n may = goes life d (event.Commit e) may.1
on_due job d life (event.Snapshot p v) change n may = goes life d (event.Snapshot p v) may.1
on_due job d life (event.Drop q) change n may = goes life d (event.Drop q) may.0
on_due job d life _ change n may = absurd may

-- the same of a state
abbrev IsDueIn : State → Event → Type 0
IsDueIn s e = ((t : TaskId) → s.life ≡ owing t → is_end e ≡ true) × ((d : Desk) (t : TaskId) → s.desk ≡ Some d → d.tasks t ≡ failed → is_return e ≡ true)

on_desk : (job : Job) (s : State) (e : Event) (change : Change) (d d' : Desk) → s.desk ≡ Some d → MayOn job d s.life e change d' → IsDueIn s e
on_desk job s e change d d' is may =
    let due = on_due job d s.life e change d' may in
    (due.0, λ x t at failed. due.1 t (ap (λ (y : Desk). y.tasks t) (some_desk d x (sym is ∙ at)) ∙ failed))

no_desk : (s : State) (e : Event) → s.desk ≡ None → s.life ≡ running → IsDueIn s e
no_desk s e none runs = ((λ t owes. absurd (owes_not s.life t runs owes)), (λ d t is failed. absurd (never s.desk d none is)))
  where
    never : (o : Option Desk) (d : Desk) → o ≡ None → o ≡ Some d → ⊥
    never o d none some = cc

pub stop_is_next : (tells : Type 0) → StopIsNext tells
stop_is_next tells job s event.Init n st = no_desk s event.Init st.2.1 st.2.2
stop_is_next tells job s event.Open n st = no_desk s event.Open st.2.1 st.2.2
stop_is_next tells job s (event.Plan e) n st = on_desk job s (event.Plan e) st.0 st.2.0 st.2.1 st.2.2 st.2.4
stop_is_next tells job s (event.Claim t) n st = on_desk job s (event.Claim t) st.0 st.2.0 st.2.1 st.2.2 st.2.4
stop_is_next tells job s (event.Seal t) n st = on_desk job s (event.Seal t) st.0 st.2.0 st.2.1 st.2.2 st.2.4
stop_is_next tells job s (event.Report t) n st = on_desk job s (event.Report t) st.0 st.2.0 st.2.1 st.2.2 st.2.4
stop_is_next tells job s (event.OutFile e) n st = on_desk job s (event.OutFile e) st.0 st.2.0 st.2.1 st.2.2 st.2.4
stop_is_next tells job s (event.Sync clock) n st = on_desk job s (event.Sync clock) st.0 st.2.0 st.2.1 st.2.2 st.2.4
stop_is_next tells job s (event.Commit e) n st = on_desk job s (event.Commit e) st.0 st.2.0 st.2.1 st.2.2 st.2.4
stop_is_next tells job s (event.Snapshot p v) n st = on_desk job s (event.Snapshot p v) st.0 st.2.0 st.2.1 st.2.2 st.2.4
stop_is_next tells job s (event.Drop q) n st = on_desk job s (event.Drop q) st.0 st.2.0 st.2.1 st.2.2 st.2.4
stop_is_next tells job s event.Stop n st = ((λ t owes. refl), (λ d t is failed. refl))
stop_is_next tells job s event.End n st = ((λ t owes. refl), (λ d t is failed. refl))
stop_is_next tells job s event.Crash n st = ((λ t owes. refl), (λ d t is failed. refl))
