-- What holds between two rounds, and when the next may begin.
use Rattle.std.specs.Prelude.{◌≡◌, ◌≤◌, ◌<◌, ◌+◌, ◌^◌, ◌++◌, ℕ, List, ◌∷◌, length, map, get_or, Option}
use mathlib.Core.Option.{some}
use lib.ListN.{get_elem?}
use Rattle.ssq_outside.specs.History.{History, files_now}
use Rattle.ssq_outside.specs.Logs.{Line}
use Rattle.ssq_shape.specs.declared.bound.Bound.{Bound}
use Rattle.ssq_core.specs.Settled.{IsSettledAs}
use Rattle.ssq_course.specs.Setting.{cut_of as offsets_of, keeping_of}
use Rattle.ssq_open.specs.declared.wanted.Opened.{Opened}
use Rattle.ssq_open.specs.Watermarks.{watermarked}
use Rattle.ssq_open.specs.Epochs.{last_ends}
use Rattle.ssq_board.specs.Core.{Scope}
use Rattle.ssq_board.specs.Rounds.{HasCap}
use Rattle.ssq_terms.specs.Setting.{CanRun, AreFound}
use Rattle.ssq_desk.specs.declared.told.Told.{Told}
use Rattle.ssq_open.specs.Numbers.{HasNumbers}
use Rattle.ssq_open.specs.Stores.{AreStores}
use Rattle.ssq_drive.specs.Kept.{IsKeptUp}
use Rattle.ssq_drive.specs.Rounds.{CanBegin, IsFoundOf, first_of}
use Rattle.ssq_runner.specs.Rounds.{Round, epochs_after}
use Rattle.ssq_runner.specs.Told.{told_text}
use Rattle.ssq_runner.specs.Ending.{Begun, HasRounds, IsOwnRun, Owned, HaveRun, AreGood, WereAsked, none_tried, setting_in}

-- Rounds may be run over this number of logs, however many lines are found, as long as these are not fewer than are planned.
pub record Fits (bound : Bound) (cap : Option ℕ) (logs : ℕ) (found : Opened) : Type 0 where
  pub runs : CanRun bound
  pub some_partitions : 1 ≤ found.meta.partitions
  pub few_partitions : found.meta.partitions ≤ 64
  pub streams : length found.meta.parts ≡ length bound.streams
  pub few_streams : length bound.streams ≤ 2 ^ 32
  pub log_each : logs ≡ length (first_of found)
  pub few_logs : logs ≤ 128
  pub has_cap : HasCap cap
  pub numbers : HasNumbers (watermarked bound.streams) (first_of found) found
  pub stores : AreStores (keeping_of bound.shape found.meta.partitions) found.committed found.stores

-- where the planned epochs end, part by part
abbrev pub planned_lines : Opened → List ℕ
planned_lines found = offsets_of (last_ends (first_of found) found.plans)

abbrev pub scope_of : Opened → List ℕ → Option ℕ → Scope
scope_of opened found cap = record { partitions = opened.meta.partitions; available = found; cap = cap }

module _ {L : Type 0} (tells : Type 0) (lines : L → List Line) (available : L → ℕ) (answers : L → List ℕ) (faults : L → ℕ) where
  -- n rounds are over, and all that they told is written: the checkpoint has come this far.
  pub record SoFar (b : Begun L) (n : ℕ) (now : History) (disk_faults : ℕ) (logs : List L) (OutTells : Type 0) (written : List ℕ) (opened : Opened) : Type 0 where
    pub done : List Round
    pub told : List Told
    pub number : length done ≡ n
    pub has : HasRounds (Owned tells lines available answers faults b) (setting_in tells lines available answers faults b) b opened.plans done told
    pub all : epochs_after (length b.found.plans) done ≡ length opened.plans
    pub committed : b.found.committed + length told ≡ opened.committed
    pub whole : 0 < n → opened.committed ≡ length opened.plans
    pub meta_is : opened.meta ≡ b.found.meta
    pub good : tells → AreGood tells lines available answers faults b opened.plans told
    pub wrote : OutTells → written ≡ b.written ++ told_text told
    pub asked : WereAsked tells lines available answers faults b done logs
    pub fits : Fits b.bound b.cap (length logs) opened
    pub there : 0 < n → tells → (i : ℕ) (own : L) → get_elem? logs i ≡ some own → get_or (planned_lines opened) i 0 ≤ available own
    pub disk_counted : b.disk_faults ≤ disk_faults
    pub ran : tells → IsOwnRun tells lines available answers faults b → HaveRun tells lines available answers faults b now opened.plans told none_tried × IsSettledAs now (files_now now)
        × IsFoundOf (setting_in tells lines available answers faults b) (files_now now) opened
    pub kept : 0 < n → tells → IsOwnRun tells lines available answers faults b → IsKeptUp (keeping_of b.bound.shape b.found.meta.partitions) b.found.meta.partitions (files_now now)

  -- and the logs were asked for the next round, and answered this
  pub record IsReady (b : Begun L) (n : ℕ) (now : History) (disk_faults : ℕ) (logs : List L) (OutTells : Type 0) (written : List ℕ) (opened : Opened) (found : List ℕ) : Type 0 where
    pub before : List L
    pub so_far : SoFar b n now disk_faults before OutTells written opened
    pub asked : (epochs : ℕ) → WereAsked tells lines available answers faults b (record { found = found; epochs = epochs } ∷ so_far.done) logs
    pub can : CanBegin b.bound (length logs) opened (scope_of opened found b.cap)
    pub few : length logs ≤ 128
    pub seen : tells → (i : ℕ) (own : L) → get_elem? logs i ≡ some own → get_or found i 0 ≤ available own
    pub are : tells → AreFound found (map lines logs)
