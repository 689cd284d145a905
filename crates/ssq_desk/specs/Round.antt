-- What a round's desk was made of: the setting of its job, and where the round begins.
use Rattle.std.specs.Prelude.{◌≡◌, ◌≤◌, ◌<◌, ◌+◌, ◌^◌, ◌&&◌, not, nat_lt, ℕ, zero, suc, ℤ, Bool, List, map, length, get_or, slice_get, Option, None, option_and_then}
use Rattle.std.specs.List.{sum}
use Rattle.ssq_outside.specs.History.{History, files_now}
use Rattle.ssq_shape.specs.declared.bound.Bound.{Bound}
use Rattle.ssq_meaning.specs.Meaning.{Line}
use Rattle.ssq_meaning.specs.Times.{delays, watermark_by, is_above}
use Rattle.ssq_plans.specs.declared.plan.Plan.{Plan}
use Rattle.ssq_task.specs.Committing.{told}
use Rattle.ssq_core.specs.Course.{Ends}
use Rattle.ssq_core.specs.Settled.{IsSettledAs}
use Rattle.ssq_course.specs.Setting.{Setting, parts_in, first_ends, job_of, keeping_of, closes}
use Rattle.ssq_course.specs.Setting.{cut_of as numbers_of}
use Rattle.ssq_open.specs.declared.wanted.Lens.{Lens}
use Rattle.ssq_open.specs.declared.wanted.Opened.{Opened}
use Rattle.ssq_open.specs.Lens.{asked}
use Rattle.ssq_open.specs.Epochs.{cut_of, last_ends}
use Rattle.ssq_open.specs.Looking.{begins}
use Rattle.ssq_open.specs.Numbers.{HasNumbers}
use Rattle.ssq_open.specs.Watermarks.{watermarked}
use Rattle.ssq_open.specs.Jobs.{IsDeskOf}
use Rattle.ssq_open.specs.Stores.{AreStores}
use Rattle.ssq_board.specs.Core.{Scope}
use Rattle.ssq_board.specs.Rounds.{HasCap}
use Rattle.ssq_board.specs.Shelf.{AreListed, first_shelf}
use Rattle.ssq_board.specs.Shown.{Start}
use Rattle.ssq_terms.specs.Setting.{CanRun, IsSettingOf, AreFound, found_lines}
use Rattle.ssq_terms.specs.Laws.{due_at, IsScopeOf}
use Rattle.ssq_terms.specs.Opening.{IsJobsFound}
use Rattle.ssq_terms.specs.Partitions.{HoldsStateOf}
use Rattle.ssq_ledger.specs.Shown.{Opening, Shown}
use Rattle.ssq_desk.specs.declared.round.Round.{Round}

-- the query with its partitions and parts, over the lines of the logs
abbrev pub setting_of : {L : Type 0} → (L → List Line) → Round L → Setting
setting_of lines r = record { job = record { bound = r.view.bound.now; partitions = r.view.partitions; parts = r.opened.meta.parts }; lines = map lines r.logs.items }

-- the watermark of the last of the first so many plans, none where there is none
abbrev pub mark_of : List Plan → ℕ → Option ℤ
mark_of plans zero = None
mark_of plans (suc n) = option_and_then (λ plan. plan.watermark) (slice_get plans n)

-- Whether an epoch without lines is due once there are these greatest times: the query shows more as the watermark rises, and it is above that
-- of the last epoch.
abbrev pub is_due : Bound → (ℕ → Option ℤ) → Option ℤ → Bool
is_due bound seen last = closes bound && is_above (watermark_by (delays bound) seen) last

-- whether one is due on what was opened: all planned epochs are committed, and it is after the last of them
abbrev pub is_due_on : Bound → Opened → Bool
is_due_on bound found = not (nat_lt found.committed (length found.plans)) && is_due bound (told found.seen) (mark_of found.plans found.committed)

-- Where a round begins on what was opened: with the epochs that are committed, and the one that is planned and not committed, if one is; and
-- with whether one without lines is due.
abbrev pub start_at : Ends → Bound → Opened → Start
start_at first bound found = record {
  committed = found.committed;
  is_planned = nat_lt found.committed (length found.plans);
  from = cut_of first found.plans found.committed;
  to = last_ends first found.plans;
  due = is_due_on bound found;
}

-- the job of the setting, with the cuts and the files of the state that were opened
abbrev pub opening_of : Setting → Opened → Opening
opening_of s found = record { job = job_of s; due = due_at s; cuts = cut_of (first_ends s) found.plans; start = start_at (first_ends s) s.job.bound found; shelf = first_shelf found.names }

-- What was opened is in order, on any disk and over any logs: it is of a query that can be run, with 1 to 64 partitions; of each part one log
-- is there, and at least so many lines were found as are planned; of each partition that keeps state its store is there, at the last committed
-- epoch; and all can be numbered: streams and tasks in 32 bits, lines in 64.
pub record IsRound (s : Setting) (found : Opened) (r : Scope) : Type 0 where
  pub runs : CanRun s.job.bound
  pub partitions : r.partitions ≡ s.job.partitions
  pub some_partitions : 1 ≤ s.job.partitions
  pub few_partitions : s.job.partitions ≤ 64
  pub streams : length s.job.parts ≡ length s.job.bound.streams
  pub parts : length r.available ≡ length (parts_in s)
  pub logs : length s.lines ≡ length (parts_in s)
  pub first : first_ends s ≡ begins s.job.parts
  pub cap : HasCap r.cap
  pub few_streams : length s.job.bound.streams ≤ 2 ^ 32
  pub few_tasks : length r.available + r.partitions ≤ 2 ^ 32
  pub few_lines : sum r.available < 2 ^ 64
  pub numbers : HasNumbers (watermarked s.job.bound.streams) (first_ends s) found
  pub stores : AreStores (keeping_of s.job.bound.shape s.job.partitions) found.committed found.stores
  pub long : (i : ℕ) → get_or (numbers_of (last_ends (first_ends s) found.plans)) i 0 ≤ get_or r.available i 0

-- What was opened is the job's own, on the disk where the round begins: the setting is that of the query and the lines that were found, which the
-- logs come to hold; its files are settled, and a desk of the machine opens on them, with the plans and the greatest times of the job's epochs so
-- far; the stores hold the states of its partitions after the committed epochs; and the names are those of the state's files.
pub record IsOwned (s : Setting) (found : Opened) (r : Scope) (start : History) : Type 0 where
  pub asks : Option ℕ
  pub lens : Lens
  pub setting : IsSettingOf s s.job.bound asks lens
  pub scope : IsScopeOf r s lens
  pub lines : AreFound (found_lines lens) s.lines
  pub settled : IsSettledAs start (files_now start)
  pub desk : IsDeskOf (asked s.job.bound asks lens) (job_of s) (files_now start) found
  pub jobs : IsJobsFound (asked s.job.bound asks lens) (job_of s) (files_now start) found desk
  pub states : (p : ℕ) → HoldsStateOf s desk.desk.cuts found.committed p (slice_get found.stores p)
  pub names : AreListed (files_now start) found.names

-- the logs tell what they hold, and what was opened is the job's own
abbrev pub OwnsRound : {L : Type 0} → Type 0 → (L → List Line) → Round L → Scope → History → Type 0
OwnsRound logs lines round r start = logs × IsOwned (setting_of lines round) round.opened r start

-- and the disk tells too
abbrev pub Owns : {D L : Type 0} → (stores logs : Type 0) → (D → History) → (L → List Line) → Shown D (Round L) → Type 0
Owns stores logs history lines shown = stores × OwnsRound logs lines shown.opening shown.scope (history shown.opened)
