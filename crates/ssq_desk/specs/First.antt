-- What is made for a desk where its round begins, and what it shows then.
use Rattle.std.specs.Prelude.{◌≡◌, ◌⊎◌, ◌≤◌, ◌<◌, ℕ, ℤ, Bool, true, false, List, [], ◌∷◌, length, slice_get, Option, Some, None, vec_capacity}
use Rattle.std.specs.Global.{Vec}
use Rattle.ssq_step.specs.Indexing.{IsIndex, Timed}
use Rattle.ssq_store.specs.declared.store.Store.{Store}
use Rattle.ssq_task.specs.declared.partition.Held.{Held}
use Rattle.ssq_value.specs.declared.row.Row.{Row}
use Rattle.ssq_meaning.specs.Meaning.{Line}
use Rattle.ssq_shape.specs.declared.bound.Bound.{Bound}
use Rattle.ssq_water.specs.Water.{seen_at}
use Rattle.ssq_plans.specs.declared.part.PartEnd.{PartEnd}
use Rattle.ssq_task.specs.Committing.{told}
use Rattle.ssq_open.specs.declared.wanted.Opened.{Opened}
use Rattle.ssq_open.specs.Looking.{begins}
use Rattle.ssq_board.specs.declared.front.Cause.{Cause}
use Rattle.ssq_board.specs.declared.front.Entry.TheVariants as entry
use Rattle.ssq_board.specs.Core.{Scope}
use Rattle.ssq_board.specs.Shown.{first}
use Rattle.ssq_ledger.specs.Shown.{Shown, HasRisen, did}
use Rattle.ssq_desk.specs.declared.desk.PartLog.{PartLog}
use Rattle.ssq_desk.specs.declared.desk.Share.{Share}
use Rattle.ssq_desk.specs.declared.desk.OutWork.{OutWork}
use Rattle.ssq_desk.specs.declared.first.Begun.{Begun}
use Rattle.ssq_desk.specs.declared.first.Made.{Made}
use Rattle.ssq_desk.specs.declared.first.Rooms.{Rooms}
use Rattle.ssq_desk.specs.declared.round.Round.{Round}
use Rattle.ssq_desk.specs.Room.{HasRoom, AreStaged}
use Rattle.ssq_desk.specs.Round.{start_at}
use Rattle.ssq_desk.specs.Whole.{opening_in}

-- the parts with their logs, each beginning where it ends so far
abbrev pub part_logs_of : {L : Type 0} → List PartEnd → List PartEnd → List L → List (PartLog L)
part_logs_of [] ends logs = []
part_logs_of (part ∷ parts) [] logs = []
part_logs_of (part ∷ parts) (end ∷ ends) [] = []
part_logs_of (part ∷ parts) (end ∷ ends) (log ∷ logs) = record { stream = part.stream; part = part.part; from = end.end; log = Some log; fed = None } ∷ part_logs_of parts ends logs

-- what partitions keep: each store with its index
abbrev pub held_of : List Store → List (List Timed) → List (Option Held)
held_of [] closings = []
held_of (store ∷ stores) [] = []
held_of (store ∷ stores) (closing ∷ closings) = Some (record { store = store; closing = closing }) ∷ held_of stores closings

-- There is an index for each store, and under the premise it is that of its state.
pub record AreIndexes (owned : Type 0) (bound : Bound) (stores : List Store) (closings : List (List Timed)) : Type 0 where
  pub count : length closings ≡ length stores
  pub each : owned → (p : ℕ) (store : Store) (closing : List Timed) → slice_get stores p ≡ Some store → slice_get closings p ≡ Some closing → IsIndex bound store.state closing

-- there is room for so many logs, streams and stores
pub record HasRooms {L : Type 0} (logs streams stores : ℕ) (rooms : Rooms L) : Type 0 where
  pub no_part_logs : rooms.part_logs.items ≡ []
  pub part_logs_room : logs ≤ vec_capacity rooms.part_logs
  pub no_told : rooms.told.items ≡ []
  pub told_room : 0 < vec_capacity rooms.told
  pub no_lines : rooms.lines.items ≡ []
  pub lines_room : streams ≤ vec_capacity rooms.lines
  pub no_logs : rooms.logs.items ≡ []
  pub logs_room : logs ≤ vec_capacity rooms.logs
  pub no_held : rooms.held.items ≡ []
  pub held_room : stores ≤ vec_capacity rooms.held
  pub no_stores : rooms.stores.items ≡ []
  pub stores_room : stores ≤ vec_capacity rooms.stores
  pub no_closings : rooms.closings.items ≡ []
  pub closings_room : stores ≤ vec_capacity rooms.closings

-- where a round and its parts begin on what was found
pub record IsBegunOn (bound : Bound) (found : Opened) (begun : Begun) : Type 0 where
  pub parts : begun.parts.items ≡ begins found.meta.parts
  pub ends : begun.ends.items ≡ (start_at (begins found.meta.parts) bound found).from
  pub start : begun.start ≡ start_at (begins found.meta.parts) bound found

-- what is made for a round with so many logs
pub record IsMadeOf {L S : Type 0} (bound : Bound) (partitions : ℕ) (found : Opened) (logs : ℕ) (made : Made L S) : Type 0 where
  pub begun : IsBegunOn bound found made.begun
  pub times : (stream : ℕ) → seen_at made.seen stream ≡ told found.seen stream
  pub streams : length made.seen ≡ length bound.streams
  pub room : HasRoom partitions logs made.seen made.room
  pub rooms : HasRooms logs (length bound.streams) (length found.stores) made.rooms

module _ {D L : Type 0} where
  -- the first of a round
  abbrev pub first_shown : (L → List Line) → Round L → D → Scope → Shown D (Round L)
  first_shown lines round disk scope = record { opening = round; opened = disk; scope = scope; disk = disk; core = first scope (opening_in lines round).start; history = [] }

  -- A desk begins so: nothing was done yet; or the files of the epoch that was opened as planned could not be begun, and it is stopped.
  abbrev pub BeginsAs : (before now : ℕ) → Shown D (Round L) → Shown D (Round L) → Type 0
  BeginsAs before now first new = (new ≡ did first new.disk []) ⊎ ((f : Cause) × (new ≡ did first new.disk (entry.Stop f ∷ [])) × HasRisen f before now)

module _ {D O S F : Type 0} (tells : Type 0) (written : S → List ℕ) where
  -- The work of the out task: there is none where no epoch was opened as planned, and else it has this room, these times and two empty
  -- files, and each partition that keeps state has one; or these could not be begun.
  abbrev pub BeginsWork : Bool → Vec (Vec Row) → List (Option ℤ) → List (Option Held) → List (Share S) → List (Share S) → (before now : ℕ) → Shown D O → Shown D O → Option (OutWork S F) → Type 0
  BeginsWork false rows seen held olds news before now old new work = (new ≡ old) × (work ≡ None) × (news ≡ olds)
  BeginsWork true rows seen held olds news before now old new None = (f : Cause) × (new ≡ did old new.disk (entry.Stop f ∷ [])) × HasRisen f before now × (news ≡ olds)
  BeginsWork true rows seen held olds news before now old new (Some work) = (new ≡ did old new.disk []) × (work.rows ≡ rows) × (work.seen ≡ seen)
      × (tells → (written work.stages.rows ≡ []) × (written work.stages.commit ≡ [])) × AreStaged tells written held olds news
