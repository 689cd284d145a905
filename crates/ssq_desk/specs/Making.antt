-- How all that the tasks of an epoch need is made before its plan is published.
use Rattle.std.specs.Prelude.{◌≡◌, ◌≤◌, ◌<◌, ℕ, List, [], length, Some, None, vec_capacity}
use Rattle.std.specs.Global.{Vec}
use mathlib.Core.Option.{some}
use lib.ListN.{get_elem?}
use Rattle.ssq_plans.specs.declared.part.PartEnd.{PartEnd}
use Rattle.ssq_board.specs.declared.front.Cause.{Cause}
use Rattle.ssq_board.specs.declared.front.Cause.TheVariants as cause
use Rattle.ssq_desk.specs.declared.desk.Load.{Load}
use Rattle.ssq_desk.specs.declared.desk.OutWork.{OutWork}
use Rattle.ssq_desk.specs.declared.desk.Share.{Share}
use Rattle.ssq_desk.specs.Room.{AreBegun}
use Rattle.ssq_desk.specs.Contents.{IsStageOf}

-- why nothing was made, with so many epochs planned: there may be no more, the disk failed, or memory ran out
abbrev pub IsUnmade : ℕ → Cause → Type 0
IsUnmade planned cause.Full = planned ≡ 4294967295
IsUnmade planned cause.DiskFault = planned ≡ 4294967295 → ⊥
IsUnmade planned cause.NoMemory = planned ≡ 4294967295 → ⊥
IsUnmade planned _ = ⊥

-- a partition has room for one bucket from each part, and its file aside where it keeps state
pub record IsReady {S : Type 0} (owned : Type 0) (written : S → List ℕ) (parts keeping p : ℕ) (share : Share S) : Type 0 where
  pub none : share.buckets.items ≡ []
  pub room : parts ≤ vec_capacity share.buckets
  pub stage : IsStageOf owned written keeping p share.stage
  pub no_key : share.key ≡ None

-- so many partitions have
pub record AreReady {S : Type 0} (owned : Type 0) (written : S → List ℕ) (partitions parts keeping : ℕ) (shares : List (Share S)) : Type 0 where
  pub count : length shares ≡ partitions
  pub each : (p : ℕ) (share : Share S) → get_elem? shares p ≡ some share → IsReady owned written parts keeping p share

module _ {L S F : Type 0} where
  -- nothing was changed but the room for plans and for what is told
  pub record IsSameLoad (old new : Load L S F) : Type 0 where
    pub view_is : new.view ≡ old.view
    pub plans_are : new.plans.items ≡ old.plans.items
    pub told_are : new.told.items ≡ old.told.items
    pub kept_is : new.kept ≡ old.kept
    pub part_logs_are : new.part_logs ≡ old.part_logs
    pub shares_are : new.shares ≡ old.shares
    pub held_is : new.held ≡ old.held
    pub out_is : new.out ≡ old.out
    pub seen_is : new.seen ≡ old.seen
    pub pending_is : new.pending ≡ old.pending

  -- an out task's work has its room and its two files, in which nothing is written
  pub record IsWorkFor (owned : Type 0) (written : S → List ℕ) (load : Load L S F) (work : OutWork S F) : Type 0 where
    pub no_rows : work.rows.items ≡ []
    pub room : load.view.partitions ≤ vec_capacity work.rows
    pub times : work.seen ≡ load.seen
    pub rows_empty : owned → written work.stages.rows ≡ []
    pub commit_empty : owned → written work.stages.commit ≡ []

  -- Each part begins where it ends so far, the partitions and the out task have their room, and there is room for the plan, whose
  -- ends are to be put here, and to tell of the epoch.
  pub record IsMadeFor (owned : Type 0) (written : S → List ℕ) (ends : List PartEnd) (old new : Load L S F) (here : Vec PartEnd) : Type 0 where
    pub view_is : new.view ≡ old.view
    pub plans_are : new.plans.items ≡ old.plans.items
    pub plan_room : length new.plans.items < vec_capacity new.plans
    pub told_are : new.told.items ≡ old.told.items
    pub told_room : length new.told.items < vec_capacity new.told
    pub kept_is : new.kept ≡ old.kept
    pub begun : AreBegun ends old.part_logs.items new.part_logs.items
    pub ready : AreReady owned written old.view.partitions (length old.part_logs.items) (length old.held.items) new.shares.items
    pub held_is : new.held ≡ old.held
    pub work : (w : OutWork S F) × (new.out ≡ Some w) × IsWorkFor owned written old w
    pub seen_is : new.seen ≡ old.seen
    pub pending_is : new.pending ≡ old.pending
    pub no_ends : here.items ≡ []
    pub ends_room : length ends ≤ vec_capacity here
