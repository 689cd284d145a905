-- What is made for an epoch is made for the load as it was before.
use Rattle.std.proofs.Common.{◌≡◌, ◌<◌, ◌≤◌, [], ℕ, ℤ, List, Option, Some, None, length, refl, sym, ap, ◌∙◌, subst}
use Rattle.std.specs.Prelude.{vec_capacity}
use Rattle.std.specs.Global.{Vec}
use Rattle.ssq_outside.specs.declared.disk.DiskError.{DiskError}
use Rattle.ssq_outside.specs.declared.disk.DiskError.TheVariants as disk
use Rattle.ssq_outside.specs.Faults.{Rises}
use Rattle.ssq_board.specs.Causes.{cause_of_disk}
use Rattle.ssq_ledger.specs.Shown.{IsUnplanned}
use Rattle.ssq_meaning.specs.declared.fed_row.View.{View}
use Rattle.ssq_plans.specs.declared.part.PartEnd.{PartEnd}
use Rattle.ssq_plans.specs.declared.plan.Plan.{Plan}
use Rattle.ssq_desk.specs.declared.desk.Load.{Load}
use Rattle.ssq_desk.specs.declared.desk.OutWork.{OutWork}
use Rattle.ssq_desk.specs.declared.desk.Share.{Share}
use Rattle.ssq_desk.specs.declared.desk.PartLog.{PartLog}
use Rattle.ssq_desk.specs.declared.room.Room.{Room}
use Rattle.ssq_desk.specs.declared.told.Told.{Told}
use Rattle.ssq_task.specs.declared.partition.Held.{Held}
use Rattle.ssq_desk.specs.Contents.{IsStageOf}
use Rattle.ssq_desk.specs.Room.{AreBegun, AreStaged, HasRoom}
use Rattle.ssq_desk.specs.Making.{IsSameLoad, IsMadeFor, IsUnmade, AreReady}
use Rattle.ssq_desk.proofs.Staging.{staged_ready}

-- why files could not be begun, where one epoch more may be planned
pub unmade_by : (planned before now : ℕ) (error : DiskError) → (planned ≡ 4294967295 → ⊥) → (error ≡ disk.Fault → Rises before now)
    → IsUnmade planned (cause_of_disk error) × IsUnplanned planned before now (cause_of_disk error)
unmade_by planned before now disk.Fault few risen = (few, risen refl)
unmade_by planned before now disk.NoMemory few risen = (few, tt)

-- with more room for plans and for what is told, the room for the tasks is as much
pub room_over : {L S F : Type 0} (old mid : Load L S F) (room : Room S) → IsSameLoad old mid → HasRoom old.view.partitions (length old.part_logs.items) old.seen room → HasRoom mid.view.partitions (length mid.part_logs.items) mid.seen room
room_over {L} old mid room same has =
    subst (λ (v : View). HasRoom v.partitions (length mid.part_logs.items) mid.seen room) (sym same.view_is)
    (subst (λ (x : Vec (PartLog L)). HasRoom old.view.partitions (length x.items) mid.seen room) (sym same.part_logs_are)
    (subst (λ (t : List (Option ℤ)). HasRoom old.view.partitions (length old.part_logs.items) t room) (sym same.seen_is) has))

-- what was put in place
abbrev pub with_work : {L S F : Type 0} → Load L S F → Vec (PartLog L) → Vec (Share S) → OutWork S F → Load L S F
with_work old part_logs shares work = record { view = old.view; plans = old.plans; part_logs = part_logs; shares = shares; held = old.held; out = Some work; seen = old.seen; pending = old.pending; told = old.told; kept = old.kept }

-- With room for the plan and to tell, with parts that begin at these ends, and with the partitions' files and the out task's work in their room, all is made.
pub put_made : {L S F : Type 0} (tells : Type 0) (written : S → List ℕ) (ends : List PartEnd) (old new : Load L S F) (room : Room S) (shares : Vec (Share S)) (work : OutWork S F)
    → length old.plans.items < vec_capacity old.plans → length old.told.items < vec_capacity old.told → length old.part_logs.items ≡ length ends → HasRoom old.view.partitions (length old.part_logs.items) old.seen room
    → AreStaged tells written old.held.items room.shares.items shares.items → work.rows ≡ room.rows → work.seen ≡ room.seen → (tells → written work.stages.rows ≡ []) → (tells → written work.stages.commit ≡ [])
    → AreBegun ends old.part_logs.items new.part_logs.items → new ≡ with_work old new.part_logs shares work → IsMadeFor tells written ends old new room.ends
put_made {L} {S} {F} tells written ends old new room shares work plans told each has staged rows times rows_empty commit_empty begun is = record {
  view_is = ap (λ (l : Load L S F). l.view) is;
  plans_are = ap (λ (l : Load L S F). l.plans.items) is;
  plan_room = subst (λ (v : Vec Plan). length v.items < vec_capacity v) (sym (ap (λ (l : Load L S F). l.plans) is)) plans;
  told_are = ap (λ (l : Load L S F). l.told.items) is;
  told_room = subst (λ (v : Vec Told). length v.items < vec_capacity v) (sym (ap (λ (l : Load L S F). l.told) is)) told;
  kept_is = ap (λ (l : Load L S F). l.kept) is;
  begun = begun;
  ready = subst (λ (v : Vec (Share S)). AreReady tells written old.view.partitions (length old.part_logs.items) (length old.held.items) v.items) (sym (ap (λ (l : Load L S F). l.shares) is))
      (staged_ready tells tells written (λ t. t) old.view.partitions (length old.part_logs.items) old.held.items room.shares.items shares.items has.count has.fresh staged);
  held_is = ap (λ (l : Load L S F). l.held) is;
  work = (
    work,
    ap (λ (l : Load L S F). l.out) is,
    record {
      no_rows = ap (λ v. v.items) rows ∙ has.no_rows;
      room = subst (λ v. old.view.partitions ≤ vec_capacity v) (sym rows) has.rows_room;
      times = times ∙ has.times_are;
      rows_empty = rows_empty;
      commit_empty = commit_empty;
    },
  );
  seen_is = ap (λ (l : Load L S F). l.seen) is;
  pending_is = ap (λ (l : Load L S F). l.pending) is;
  no_ends = has.no_ends;
  ends_room = subst (λ (n : ℕ). n ≤ vec_capacity room.ends) each has.ends_room;
}

pub made_over : {L S F : Type 0} (tells : Type 0) (written : S → List ℕ) (ends : List PartEnd) (old mid new : Load L S F) (here : Vec PartEnd)
    → IsSameLoad old mid → IsMadeFor tells written ends mid new here → IsMadeFor tells written ends old new here
made_over {L} {S} {F} tells written ends old mid new here same made = record {
  view_is = made.view_is ∙ same.view_is;
  plans_are = made.plans_are ∙ same.plans_are;
  plan_room = made.plan_room;
  told_are = made.told_are ∙ same.told_are;
  told_room = made.told_room;
  kept_is = made.kept_is ∙ same.kept_is;
  begun = subst (λ (olds : Vec (PartLog L)). AreBegun ends olds.items new.part_logs.items) same.part_logs_are made.begun;
  ready = record {
    count = made.ready.count ∙ ap (λ (v : View). v.partitions) same.view_is;
    each = λ p share here. (let own = made.ready.each p share here in record {
      none = own.none;
      room = subst (λ (olds : Vec (PartLog L)). length olds.items ≤ vec_capacity share.buckets) same.part_logs_are own.room;
      stage = subst (λ (held : Vec (Option Held)). IsStageOf tells written (length held.items) p share.stage) same.held_is own.stage;
      no_key = own.no_key;
    });
  };
  held_is = made.held_is ∙ same.held_is;
  work = (
    made.work.0,
    made.work.1,
    record {
      no_rows = made.work.2.no_rows;
      room = subst (λ (v : View). v.partitions ≤ vec_capacity made.work.0.rows) same.view_is made.work.2.room;
      times = made.work.2.times ∙ same.seen_is;
      rows_empty = made.work.2.rows_empty;
      commit_empty = made.work.2.commit_empty;
    },
  );
  seen_is = made.seen_is ∙ same.seen_is;
  pending_is = made.pending_is ∙ same.pending_is;
  no_ends = made.no_ends;
  ends_room = made.ends_room;
}

stage_by : {S : Type 0} (tells fewer : Type 0) (written : S → List ℕ) (keeping p : ℕ) (stage : Option S) → (fewer → tells) → IsStageOf tells written keeping p stage → IsStageOf fewer written keeping p stage
stage_by tells fewer written keeping p None so is = is
stage_by tells fewer written keeping p (Some stage) so is = (is.0, λ t. is.1 (so t))

-- where less is known to be told
pub made_by : {L S F : Type 0} (tells fewer : Type 0) (written : S → List ℕ) (ends : List PartEnd) (old new : Load L S F) (here : Vec PartEnd)
    → (fewer → tells) → IsMadeFor tells written ends old new here → IsMadeFor fewer written ends old new here
made_by tells fewer written ends old new here so made = record {
  view_is = made.view_is;
  plans_are = made.plans_are;
  plan_room = made.plan_room;
  told_are = made.told_are;
  told_room = made.told_room;
  kept_is = made.kept_is;
  begun = made.begun;
  ready = record {
    count = made.ready.count;
    each = λ p share here. (let own = made.ready.each p share here in record { none = own.none; room = own.room; stage = stage_by tells fewer written (length old.held.items) p share.stage so own.stage; no_key = own.no_key });
  };
  held_is = made.held_is;
  work = (
    made.work.0,
    made.work.1,
    record {
      no_rows = made.work.2.no_rows;
      room = made.work.2.room;
      times = made.work.2.times;
      rows_empty = λ t. made.work.2.rows_empty (so t);
      commit_empty = λ t. made.work.2.commit_empty (so t);
    },
  );
  seen_is = made.seen_is;
  pending_is = made.pending_is;
  no_ends = made.no_ends;
  ends_room = made.ends_room;
}
