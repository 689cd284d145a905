-- The next plan, and why there is none.
use Rattle.std.proofs.Common.{◌≡◌, ◌≤◌, ◌+◌, ℕ, ℤ, false, true≢false, Option, Some, None, if◌then◌else◌, refl, sym, ap, ◌∙◌, subst, arith, le-ltb, lt-ltb}
use Rattle.ssq_outside.specs.Faults.{Rises}
use Rattle.ssq_outside.specs.declared.disk.DiskError.{DiskError}
use Rattle.ssq_outside.specs.declared.disk.DiskError.TheVariants as disk
use Rattle.ssq_outside.specs.declared.name.Name.TheVariants as name
use Rattle.ssq_plans.specs.Records.{plan_text}
use Rattle.ssq_core.specs.Course.{Ends, Cuts, Job, truth}
use Rattle.ssq_board.specs.declared.front.Cause.{Cause}
use Rattle.ssq_board.specs.declared.front.Cause.TheVariants as cause
use Rattle.ssq_board.specs.declared.front.Entry.TheVariants as entry
use Rattle.ssq_board.specs.declared.front.Ready.TheVariants as ready
use Rattle.ssq_board.specs.Causes.{cause_of_disk}
use Rattle.ssq_board.specs.Core.{Scope, Core, May, HasCause, after, cuts_by, extended, is_stopped, next_ends, ready_of}
use Rattle.ssq_board.specs.Shown.{IsSound}
use Rattle.ssq_board.proofs.Readies.{full_is, past}
use Rattle.ssq_board.proofs.Sounds.{step_sound}
use Rattle.ssq_ledger.specs.Shown.{HasRisen, IsNoPlan, IsUnplanned, TellsPlans}

-- the next cut changes none before it
before_next : (cuts : Cuts) (n : ℕ) (ends : Ends) (e : ℕ) → e ≤ n → cuts e ≡ extended cuts n ends e
before_next cuts n ends e le = sym (ap (λ b. if b then ends else cuts e) (le-ltb n e le))

-- so the plan that the ledger writes is the true one of its name
pub plan_true : (job : Job) (r : Scope) (c : Core) (cuts : Cuts) (w : Option ℤ) → TellsPlans job → w ≡ (job.course cuts).watermark c.front.planned
    → plan_text (record { epoch = c.front.planned; watermark = w; ends = next_ends r.cap c.ends r.available }) ≡ truth (job.course (cuts_by r cuts c (entry.Plan c.front.planned))) (name.Plan c.front.planned)
plan_true job r c cuts w tells is =
    let n = c.front.planned in
    let ends = next_ends r.cap c.ends r.available in
    let next = extended cuts n ends in
    let mark : w ≡ (job.course next).watermark n = is ∙ tells.watermark cuts next n (λ e le. before_next cuts n ends e le) in
    let last : next (n + 1) ≡ ends = ap (λ b. if b then ends else cuts (n + 1)) (lt-ltb n (n + 1) (omega arith)) in
    let end : ends ≡ (job.course next).ends (n + 1) = sym (tells.ends next (n + 1) ∙ last) in
    (λ i. plan_text (record { epoch = n; watermark = mark i; ends = end i }))

-- a file that could not be sealed may stop the ledger
pub seal_may : (r : Scope) (c : Core) (e : DiskError) → HasCause r c (cause_of_disk e)
seal_may r c disk.Fault = tt
seal_may r c disk.NoMemory = tt

-- and where the disk failed at it, the disk counted that
pub seal_risen : (e : DiskError) (before now : ℕ) → (e ≡ disk.Fault → Rises before now) → HasRisen (cause_of_disk e) before now
seal_risen disk.Fault before now rises = rises refl
seal_risen disk.NoMemory before now rises = tt

pub planned_sound : (r : Scope) (c n : Core) (e : ℕ) → May r c (entry.Plan e) → IsSound r c → n ≡ after r c (entry.Plan e) → IsSound r n
planned_sound r c n e may d is = subst (IsSound r) (sym is) (step_sound r c (entry.Plan e) may d)

-- where a plan is next, the ledger runs
pub plan_runs : (r : Scope) (c : Core) → ready_of r c ≡ ready.Plan → c.front.stop ≡ None
plan_runs r c e = by c.front.stop (past (is_stopped c.front.stop) _ _ _ e (λ x. cc)).0
  where
    by : (stop : Option Cause) → is_stopped stop ≡ false → stop ≡ None
    by None is = refl
    by (Some f) is = absurd (true≢false is)

-- and where there is none, it may stop for that
pub no_plan_may : (r : Scope) (c : Core) (f : Cause) → ready_of r c ≡ ready.Plan → IsNoPlan c.front.planned f → HasCause r c f
no_plan_may r c cause.Full next is = full_is r c next is
no_plan_may r c cause.NoMemory next is = tt
no_plan_may r c cause.DiskFault next is = absurd is
no_plan_may r c (cause.BadLine t p o f) next is = absurd is
no_plan_may r c (cause.Overflow t p o) next is = absurd is
no_plan_may r c cause.LogFault next is = absurd is
no_plan_may r c cause.KeyOverflow next is = absurd is
no_plan_may r c (cause.LogShort t p l f) next is = absurd is
no_plan_may r c (cause.Damaged q) next is = absurd is

pub no_plan_is : (planned before now : ℕ) (f : Cause) → IsNoPlan planned f → IsUnplanned planned before now f
no_plan_is planned before now cause.Full is = is
no_plan_is planned before now cause.NoMemory is = tt
no_plan_is planned before now cause.DiskFault is = absurd is
no_plan_is planned before now (cause.BadLine t p o f) is = absurd is
no_plan_is planned before now (cause.Overflow t p o) is = absurd is
no_plan_is planned before now cause.LogFault is = absurd is
no_plan_is planned before now cause.KeyOverflow is = absurd is
no_plan_is planned before now (cause.LogShort t p l f) is = absurd is
no_plan_is planned before now (cause.Damaged q) is = absurd is
