-- What partitions keep, from epoch to epoch.
use Rattle.std.proofs.Common.{◌≡◌, ◌<◌, ◌+◌, ℕ, true, false, true≢false, List, Option, Some, None, inl, inr, refl, sym}
use Rattle.std.specs.Prelude.{not, IsSomeAnd}
use Rattle.std.specs.List.{list_all, list_any}
use borrow.Author.Tests.{not-false}
use Rattle.ssq_task.specs.declared.partition.Held.{Held}
use Rattle.ssq_core.specs.Course.{Cuts}
use Rattle.ssq_course.specs.Setting.{Setting}
use Rattle.ssq_board.specs.declared.front.Place.{Place}
use Rattle.ssq_board.specs.declared.front.Place.TheVariants as place
use Rattle.ssq_board.specs.declared.front.Ready.TheVariants as ready
use Rattle.ssq_board.specs.Core.{Scope, Core, ready_of, ready_tasks, is_open, is_fine, is_more, is_stopped, is_waiting}
use Rattle.ssq_board.proofs.Readies.{past, chosen}
use Rattle.ssq_desk.specs.Contents.{IsStageOf, IsHeldOf, IsHeldAt, is_gone, keeping_in}
use Rattle.ssq_desk.specs.Handing.{state_with}
use Rattle.ssq_desk.specs.Tasks.{IsStateFor}

-- where a commit is next all reduce tasks are back
tasks_fine : (c : Core) → ready_tasks c ≡ ready.Commit → list_all is_fine c.reduces ≡ true
tasks_fine c e =
    let a = past (not c.front.fresh) _ _ _ e (λ x. cc) in
    let b = past (list_any is_waiting c.maps) _ _ _ a.1 (λ x. cc) in
    let d = past (not (list_all is_fine c.maps)) _ _ _ b.1 (λ x. cc) in
    let f = past (list_any is_waiting c.reduces) _ _ _ d.1 (λ x. cc) in
    let g = past (not (list_all is_fine c.reduces)) _ _ _ f.1 (λ x. cc) in not-false (list_all is_fine c.reduces) g.0

pub commit_fine : (r : Scope) (c : Core) → ready_of r c ≡ ready.Commit → list_all is_fine c.reduces ≡ true
commit_fine r c e =
    let a = past (is_stopped c.front.stop) _ _ _ e (λ x. cc) in
    elim (chosen (is_open c) (ready_tasks c) _ _ a.1) [
      | inl opened ↦ tasks_fine c opened.1
      | inr closed ↦
          let b = past (not c.front.settled) _ _ _ closed.1 (λ x. cc) in
          absurd (elim (chosen (is_more r c) ready.Plan ready.Over ready.Commit b.1) [ inl x ↦ (let y = x.1 in cc) | inr x ↦ (let y = x.1 in cc) ])
    ]

-- once an epoch is committed its version is that of the committed epochs
pub next_held : (owned : Type 0) (s : Setting) (cuts : Cuts) (e p : ℕ) (at : Place) (own : Option Held) → is_fine at ≡ true → (at ≡ place.Rests → ⊥)
    → IsHeldAt owned s cuts true e p at own → IsHeldAt owned s cuts false (e + 1) p at own
next_held owned s cuts e p place.Rests own fine busy held = absurd (busy refl)
next_held owned s cuts e p place.Waits own fine busy held = absurd (true≢false (sym fine))
next_held owned s cuts e p place.Away own fine busy held = absurd (true≢false (sym fine))
next_held owned s cuts e p (place.Back None) own fine busy held = held
next_held owned s cuts e p (place.Back (Some f)) own fine busy held = absurd (true≢false (sym fine))

-- between epochs it is that of the committed ones, wherever the task was
pub between_held : (owned : Type 0) (s : Setting) (cuts : Cuts) (e p : ℕ) (at : Place) (own : Option Held) → (is_gone at → ⊥)
    → IsHeldAt owned s cuts false e p at own → IsSomeAnd own (IsHeldOf owned s cuts e p)
between_held owned s cuts e p place.Rests own back held = held back
between_held owned s cuts e p place.Waits own back held = held back
between_held owned s cuts e p place.Away own back held = absurd (back tt)
between_held owned s cuts e p (place.Back None) own back held = held back
between_held owned s cuts e p (place.Back (Some f)) own back held = absurd (back tt)

-- what a reduce task gets of a partition whose task waits
pub state_for : {S : Type 0} (owned : Type 0) (written : S → List ℕ) (s : Setting) (cuts : Cuts) (e p : ℕ) (own : Option Held) (stage : Option S) → IsStageOf owned written (keeping_in s) p stage → (p < keeping_in s → IsSomeAnd own (IsHeldOf owned s cuts e p))
    → IsStateFor owned written s cuts e p (state_with own stage)
state_for owned written s cuts e p None None is held = is
state_for owned written s cuts e p (Some own) None is held = is
state_for owned written s cuts e p None (Some stage) is held = absurd (held is.0)
state_for owned written s cuts e p (Some own) (Some stage) is held = (is.0, held is.0, is.1)
