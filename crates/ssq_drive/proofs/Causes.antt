-- Which cause a task brings about, and what the desk then says.
use Rattle.std.proofs.Common.{◌≡◌, ◌⊎◌, ℕ, zero, suc, Bool, true, false, true≢false, List, [], ◌∷◌, set, Option, Some, None, if◌then◌else◌, sym, refl, ap, ◌∙◌, inl, inr}
use mathlib.Core.Option.{some, some-injective}
use lib.ListN.{get_elem?}
use Rattle.ssq_outside.specs.declared.gate.TaskId.{TaskId}
use Rattle.ssq_board.specs.declared.front.Cause.{Cause}
use Rattle.ssq_board.specs.declared.front.Cause.TheVariants as cause
use Rattle.ssq_board.specs.declared.front.Place.{Place}
use Rattle.ssq_board.specs.declared.front.Place.TheVariants as place
use Rattle.ssq_board.specs.Core.{Scope, Core, is_of_epoch, is_stopped, fault_at, due_stop, due, tasks_of}
use Rattle.ssq_board.proofs.Sounds.{outside_due}
use Rattle.ssq_board.proofs.Leasts.{cause_counts}
use Rattle.ssq_drive.specs.Driven.{StopsFor, no_file}

set_here : {A : Type 0} (l : List A) (i : ℕ) (a : A) → get_elem? l i ≡ some a → set l i a ≡ l
set_here [] i a here = refl
set_here (x ∷ xs) zero a here = ap (λ y. y ∷ xs) (sym (some-injective x a here))
set_here (x ∷ xs) (suc i) a here = ap (λ l. x ∷ l) (set_here xs i a here)

set_at : {A : Type 0} (l : List A) (i j : ℕ) (a b : A) → get_elem? (set l i a) j ≡ some b → (a ≡ b) ⊎ (get_elem? l j ≡ some b)
set_at [] i j a b there = inr there
set_at (x ∷ xs) zero zero a b there = inl (some-injective a b there)
set_at (x ∷ xs) zero (suc j) a b there = inr there
set_at (x ∷ xs) (suc i) zero a b there = inr there
set_at (x ∷ xs) (suc i) (suc j) a b there = set_at xs i j a b there

-- where a phase has no cause to stop, none of its tasks met a cause of the outside
calm_at : (ps : List Place) (i : ℕ) (g : Cause) → due_stop ps ≡ None → get_elem? ps i ≡ some (place.Back (Some g)) → is_of_epoch g ≡ true
calm_at ps i g calm here = by (is_of_epoch g) refl
  where
    by : (b : Bool) → is_of_epoch g ≡ b → is_of_epoch g ≡ true
    by true is = is
    by false is = absurd (outside_due ps i g (place.Back (Some g)) here is (ap due_stop (set_here ps i (place.Back (Some g)) here) ∙ calm))

-- the cause for which a phase stops where a task of it comes back is that task's own, or the epoch's
own_or_epochs : (ps : List Place) (i : ℕ) (f : Option Cause) (g : Cause) → due_stop ps ≡ None → due_stop (set ps i (place.Back f)) ≡ Some g → (is_of_epoch g ≡ true) ⊎ (f ≡ Some g)
own_or_epochs ps i f g calm stops =
    let c = cause_counts (set ps i (place.Back f)) g stops in
    elim (set_at ps i c.place_of (place.Back f) (place.Back (Some g)) c.here) [
      | inl own ↦ inr (ap fault_at own)
      | inr before ↦ inl (calm_at ps c.place_of g calm before)
    ]

-- the epoch's own cause is none that the desk accounts for
epochs_stop : (r : Scope) (c : Core) (before now : ℕ) (g : Cause) → is_of_epoch g ≡ true → StopsFor no_file r c before now g
epochs_stop r c before now (cause.BadLine s p o f) line = tt
epochs_stop r c before now (cause.Overflow s p o) line = tt
epochs_stop r c before now cause.KeyOverflow line = tt
epochs_stop r c before now cause.LogFault line = absurd (true≢false (sym line))
epochs_stop r c before now (cause.LogShort s p l f) line = absurd (true≢false (sym line))
epochs_stop r c before now (cause.Damaged q) line = absurd (true≢false (sym line))
epochs_stop r c before now cause.DiskFault line = absurd (true≢false (sym line))
epochs_stop r c before now cause.Full line = absurd (true≢false (sym line))
epochs_stop r c before now cause.NoMemory line = absurd (true≢false (sym line))

-- So it is with each cause that a report brings about, where it is with the report's own.
pub report_stops : (r : Scope) (c n : Core) (t : TaskId) (f : Option Cause) (before now : ℕ) → c.front.stop ≡ None → due_stop (tasks_of t.kind c) ≡ None
    → ((g : Cause) → f ≡ Some g → due c t f ≡ Some g → StopsFor no_file r n before now g) → (g : Cause) → due c t f ≡ Some g → StopsFor no_file r n before now g
report_stops r c n t f before now running calm own g is =
    let stops = sym (ap (λ (o : Option Cause). if is_stopped o then None else due_stop (set (tasks_of t.kind c) t.number (place.Back f))) running) ∙ is in
    elim (own_or_epochs (tasks_of t.kind c) t.number f g calm stops) [
      | inl line ↦ epochs_stop r n before now g line
      | inr same ↦ own g same is
    ]
