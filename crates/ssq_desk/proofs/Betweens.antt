-- What a desk knows where the next epoch is to be planned, and what it holds once that is done.
use Rattle.std.proofs.Common.{◌≡◌, ◌≤◌, ◌+◌, ℕ, Bool, true, false, not, true≢false, List, length, nat_lt, Option, Some, None, refl, sym, ap, ◌∙◌, arith, ltb-false}
use Rattle.std.specs.Prelude.{if◌then◌else◌}
use Rattle.std.specs.List.{list_all, list_any}
use Rattle.ssq_outside.specs.History.{History}
use Rattle.ssq_meaning.specs.Meaning.{Line}
use Rattle.ssq_meaning.specs.Times.{delays, watermark_by}
use Rattle.ssq_meaning.specs.declared.fed_row.View.{View}
use Rattle.ssq_water.specs.Water.{seen_at}
use Rattle.ssq_core.specs.Course.{Cuts}
use Rattle.ssq_course.specs.Setting.{Setting, parts_in, first_ends, watermark_at}
use Rattle.ssq_open.specs.declared.wanted.Opened.{Opened}
use Rattle.ssq_open.specs.Epochs.{cut_of}
use Rattle.ssq_board.specs.declared.front.Cause.{Cause}
use Rattle.ssq_board.specs.declared.front.Ready.{Ready}
use Rattle.ssq_board.specs.declared.front.Ready.TheVariants as ready
use Rattle.ssq_board.specs.Core.{Scope, Core, is_open, is_stopped, is_more, is_waiting, is_fine, ready_of, ready_tasks}
use Rattle.ssq_board.specs.Shown.{first}
use Rattle.ssq_ledger.specs.Shown.{Shown, IsLegal, IsInOrder, state, first_state, cuts_of, shelf_of}
use Rattle.ssq_desk.specs.declared.desk.Load.{Load}
use Rattle.ssq_desk.specs.declared.round.Round.{Round}
use Rattle.ssq_desk.specs.Round.{setting_of, opening_of, Owns}
use Rattle.ssq_desk.specs.Whole.{IsWhole, opening_in}
use Rattle.ssq_desk.proofs.Ends.{AreEnds, AreWithin, run_ends, run_within, planned_first}
use Rattle.ssq_desk.proofs.Planned.{IsBetween}

-- ---- where the next epoch is to be planned

is_plan : Ready → Bool
is_plan ready.Plan = true
is_plan _ = false

not_plan : (x : Ready) → is_plan x ≡ false → x ≡ ready.Plan → ⊥
unfolding is_plan
not_plan x other is_it = true≢false (sym (ap is_plan is_it) ∙ other)

if_not : (b : Bool) (x y : Ready) → (x ≡ ready.Plan → ⊥) → (y ≡ ready.Plan → ⊥) → (if b then x else y) ≡ ready.Plan → ⊥
if_not true x y not_x not_y e = not_x e
if_not false x y not_x not_y e = not_y e

pub tasks_not : (c : Core) → ready_tasks c ≡ ready.Plan → ⊥
unfolding is_plan
tasks_not c =
    let no_sync = not_plan ready.Sync refl in
    let no_task = not_plan ready.Task refl in
    let no_idle = not_plan ready.Idle refl in
    let no_commit = not_plan ready.Commit refl in
    let end = if_not c.front.settled ready.Commit ready.Sync no_commit no_sync in
    let written = if_not (not c.front.written) ready.Idle _ no_idle end in
    let outs = if_not (list_any is_waiting c.outs) ready.Task _ no_task written in
    let reduced = if_not (not (list_all is_fine c.reduces)) ready.Idle _ no_idle outs in
    let reduces = if_not (list_any is_waiting c.reduces) ready.Task _ no_task reduced in
    let mapped = if_not (not (list_all is_fine c.maps)) ready.Idle _ no_idle reduces in
    let maps = if_not (list_any is_waiting c.maps) ready.Task _ no_task mapped in
    if_not (not c.front.fresh) ready.Sync _ no_sync maps

abbrev rest : Scope → Core → Ready
rest r c = if is_open c then ready_tasks c else if not c.front.settled then ready.Sync else if is_more r c then ready.Plan else ready.Over

runs : (r : Scope) (c : Core) (stop : Option Cause) → ready_of r c ≡ ready.Plan → c.front.stop ≡ stop → c.front.stop ≡ None
unfolding is_plan
runs r c None e is = is
runs r c (Some f) e is = absurd (not_plan ready.Stopped refl (sym (ap (λ (s : Option Cause). if is_stopped s then ready.Stopped else rest r c) is) ∙ e))

unopened : (r : Scope) (c : Core) (b : Bool) → ready_of r c ≡ ready.Plan → is_open c ≡ b → is_open c ≡ false
unfolding is_plan
unopened r c false e is = is
unopened r c true e is =
    absurd (if_not (is_stopped c.front.stop) ready.Stopped (ready_tasks c) (not_plan ready.Stopped refl) (tasks_not c)
    (sym (ap (λ (b : Bool). if is_stopped c.front.stop then ready.Stopped else if b then ready_tasks c else if not c.front.settled then ready.Sync else if is_more r c then ready.Plan else ready.Over) is) ∙ e))

pub plan_runs : (r : Scope) (c : Core) → ready_of r c ≡ ready.Plan → (c.front.stop ≡ None) × (is_open c ≡ false)
plan_runs r c e = (runs r c c.front.stop e refl, unopened r c (is_open c) e refl)

-- where the round begins its cuts end where it says
first_ends_are : (s : Setting) (found : Opened) (r : Scope) → found.committed ≤ length found.plans → length found.plans ≤ found.committed + 1
    → AreEnds (opening_of s found).cuts (first r (opening_of s found).start)
first_ends_are s found r before near =
    ap (cut_of (first_ends s) found.plans) (planned_first found.committed (length found.plans) (nat_lt found.committed (length found.plans)) refl before near)

closed_is : (c : Core) → is_open c ≡ false → c.front.committed ≤ c.front.planned → c.front.committed ≡ c.front.planned
closed_is c closed before = let over = ltb-false c.front.committed c.front.planned closed in omega (arith, over, before)

module _ {D L S F : Type 0} (stores logs : Type 0) (history : D → History) (lines : L → List Line) (available : L → ℕ) (answers : L → List ℕ) (faults : L → ℕ) (written : S → List ℕ) (sealed : F → List ℕ) (shown : Shown D (Round L)) (load : Load L S F)
    (whole : IsWhole stores logs history lines available answers faults written sealed shown load) (legal : IsLegal (Owns stores logs history lines shown) history (opening_in lines) shown) (order : IsInOrder shown.scope shown.core) where
  -- the lines of the planned epochs end where the cuts say
  pub ends_are : AreEnds (cuts_of (opening_in lines) shown) shown.core
  ends_are =
      run_ends (Owns stores logs history lines shown) (opening_in lines shown.opening).job shown.scope (opening_in lines shown.opening).due shown.history (first_state (opening_in lines shown.opening) shown.scope (history shown.opened))
      (state legal.0 shown.core (shelf_of (opening_in lines) shown) (cuts_of (opening_in lines) shown)) legal.2
      (first_ends_are (setting_of lines shown.opening) shown.opening.opened shown.scope whole.round.numbers.before whole.round.numbers.near)

  -- and of no part more is planned than was found
  pub ends_within : AreWithin shown.scope.available shown.core.ends
  ends_within =
      run_within (Owns stores logs history lines shown) (opening_in lines shown.opening).job shown.scope (opening_in lines shown.opening).due shown.history (first_state (opening_in lines shown.opening) shown.scope (history shown.opened))
      (state legal.0 shown.core (shelf_of (opening_in lines) shown) (cuts_of (opening_in lines) shown)) legal.2 whole.round.long

  pub each_end : length shown.core.ends ≡ length (parts_in (setting_of lines shown.opening))
  each_end = order.sound.ends ∙ whole.round.parts

  pub between : ready_of shown.scope shown.core ≡ ready.Plan → IsBetween (setting_of lines shown.opening) (cuts_of (opening_in lines) shown) shown.scope shown.core
  between next =
      let runs = plan_runs shown.scope shown.core next in record {
        running = runs.0;
        closed = closed_is shown.core runs.1 order.sound.before;
        back = (order.between runs.1).maps;
        reduced = (order.between runs.1).reduces;
        ends = ends_are;
        each_end = each_end;
        each_map = order.sound.maps ∙ whole.round.parts;
      }

-- the watermark by the greatest times of a desk that runs, between epochs
pub marked : {D L S F : Type 0} (stores logs : Type 0) (history : D → History) (lines : L → List Line) (available : L → ℕ) (answers : L → List ℕ) (faults : L → ℕ) (written : S → List ℕ) (sealed : F → List ℕ) (shown : Shown D (Round L)) (load now : Load L S F)
    → IsWhole stores logs history lines available answers faults written sealed shown load → shown.core.front.stop ≡ None → shown.core.front.committed ≡ shown.core.front.planned → now.view ≡ load.view → now.seen ≡ load.seen
    → Owns stores logs history lines shown → watermark_by (delays now.view.bound.now) (seen_at now.seen) ≡ watermark_at (setting_of lines shown.opening) (cuts_of (opening_in lines) shown) shown.core.front.planned
marked stores logs history lines available answers faults written sealed shown load now whole running closed view times t =
    let s : Setting = setting_of lines shown.opening in
    let cuts : Cuts = cuts_of (opening_in lines) shown in
    let are = (whole.holds.seen_so_far running).are t in
    let bound : now.view.bound.now ≡ s.job.bound = ap (λ (v : View). v.bound.now) view ∙ whole.view.bound in
    (λ i. watermark_by (delays (bound i)) (seen_at (times i)))
    ∙ (λ i. watermark_by (delays s.job.bound) (λ stream. are stream i))
    ∙ ap (watermark_at s cuts) closed
