-- What a disk in memory holds, and the room that it has for what comes.
use Rattle.std.specs.Prelude.{◌≡◌, ◌+◌, ◌-◌, ◌*◌, ◌^◌, ◌≤◌, ℕ, Bool, true, false, List, [], ◌∷◌, None, drop, length, is_some, if◌then◌else◌}
use Rattle.ssq_outside.specs.declared.name.Name.{Name}
use Rattle.ssq_outside.specs.Files.{same_name}
use Rattle.ssq_outside.specs.History.{History}
use Rattle.ssq_fakes.specs.declared.record.Event.{Event}
use Rattle.ssq_fakes.specs.declared.disk.MemDisk.{MemDisk}
use Rattle.ssq_fakes.specs.declared.disk.MemStage.{MemStage}
use Rattle.ssq_fakes.specs.Plans.{DiskCalls}
use Rattle.ssq_fakes.specs.Records.{events_of, had_after, content_in, is_unsettled}

-- The clock counts the newest of these events; what each name had at a moment is what the events up to then made.
abbrev pub history_of : List Event → ℕ → History
history_of events clock = record { moment = clock; had_at = λ moment. had_after (drop (clock - moment) events) }

abbrev pub disk_history : MemDisk → History
disk_history disk = history_of (events_of disk.record) disk.clock

-- how often it failed
abbrev pub disk_faults : MemDisk → ℕ
disk_faults disk = disk.faults.count

-- its calls, and those on its stages, that are to fail
abbrev pub disk_plan : MemDisk → DiskCalls
disk_plan disk = record { named = disk.faults.plan.calls.items; stop_after = disk.faults.plan.stop_after }

-- the number of its next call
abbrev pub disk_calls : MemDisk → ℕ
disk_calls disk = disk.faults.calls

-- the number of its next stage
abbrev pub disk_stages : MemDisk → ℕ
disk_stages disk = disk.stages

-- how many removals and syncs it has room for; a file that is published brings room for three
abbrev pub disk_room : MemDisk → ℕ
disk_room disk = length (events_of disk.spare)

-- its clock is at its end
abbrev pub IsAtEnd : MemDisk → Type 0
IsAtEnd disk = disk.clock ≡ 2 ^ 64 - 1

-- the calls on a stage that are to fail, by their numbers from 0
abbrev pub stage_plan : MemStage → List ℕ
stage_plan stage = stage.faults.plan.items

-- the number of its next call
abbrev pub stage_calls : MemStage → ℕ
stage_calls stage = stage.faults.calls

-- the name is one of these
abbrev pub has_name : List Name → Name → Bool
has_name [] q = false
has_name (name ∷ names) q = if same_name q name then true else has_name names q

-- There is room for what may come without a new file: for each name that is there its removal and the sync after it,
-- and a sync where something changed.
pub record HasRoom (events : List Event) (spare : ℕ) : Type 0 where
  pub names : List Name
  pub present : (q : Name) → is_some (content_in events q) ≡ true → has_name names q ≡ true
  pub enough : 2 * length names + (if is_unsettled events then 1 else 0) ≤ spare

-- it never fails
pub record IsSureDisk (disk : MemDisk) : Type 0 where
  pub no_calls : disk.faults.plan.calls.items ≡ []
  pub no_stop : disk.faults.plan.stop_after ≡ None
  pub has_room : HasRoom (events_of disk.record) (length (events_of disk.spare))
