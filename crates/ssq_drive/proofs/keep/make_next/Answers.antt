use Rattle.std.proofs.Common.{Option, sym, subst}
use Rattle.std.specs.Prelude.{IfSome}
use Rattle.ssq_outside.specs.Faults.{Rises}
use Rattle.ssq_shape.specs.Late.{closes}
use Rattle.ssq_desk.specs.declared.upkeep.UpkeepTask.{UpkeepTask}
use Rattle.ssq_desk.specs.Round.{Owns}
use Rattle.ssq_desk.specs.Upkeep.{IsUpkeepOf}
use Rattle.ssq_desk.specs.Whole.{opening_in}
use Rattle.ssq_drive.specs.Good.{IsGood}
use Rattle.ssq_drive.proofs.Ending.{on_err}
use Rattle.ssq_drive.proofs.Making.{is_claimed, is_made, made_good, made_kept, none_handed, none_out, taken_is, unhanded, untaken}
use Rattle.ssq_drive.proofs.Tidying.{led_by}
use Rattle.ssq_drive.proofs.keep.make_next.Goals as goal

-- none could be begun
pub returns-in_err-task-clause-kept : goal.returns-in_err-task-clause-kept
returns-in_err-task-clause-kept g c =
    (unhanded g.D.Disk.tells g.L.Log.tells g.D.Disk.history g.L.Log.lines g.D.Disk.faults (closes c.args.desk.now.opening.view.bound.now) c.args.desk.now c.requires.running c.requires.rest g.row.D-Stage.Denot c.claim_upkeep.new.self c.in_err-task.field-0.0 c.in_err-task.ensures.handed c.claim_upkeep.ensures.same c.claim_upkeep.ensures.counted).kept

pub returns-in_err-task-clause-good : goal.returns-in_err-task-clause-good
returns-in_err-task-clause-good g c =
    λ t good. (unhanded g.D.Disk.tells g.L.Log.tells g.D.Disk.history g.L.Log.lines g.D.Disk.faults (closes c.args.desk.now.opening.view.bound.now) c.args.desk.now c.requires.running c.requires.rest g.row.D-Stage.Denot c.claim_upkeep.new.self c.in_err-task.field-0.0 c.in_err-task.ensures.handed c.claim_upkeep.ensures.same c.claim_upkeep.ensures.counted).good good

pub returns-in_err-task-clause-stopped : goal.returns-in_err-task-clause-stopped
returns-in_err-task-clause-stopped g c =
    on_err c.from_residual.result (unhanded g.D.Disk.tells g.L.Log.tells g.D.Disk.history g.L.Log.lines g.D.Disk.faults (closes c.args.desk.now.opening.view.bound.now) c.args.desk.now c.requires.running c.requires.rest g.row.D-Stage.Denot c.claim_upkeep.new.self c.in_err-task.field-0.0 c.in_err-task.ensures.handed c.claim_upkeep.ensures.same c.claim_upkeep.ensures.counted).stopped

-- none is due
pub returns-in_default-clause-kept : goal.returns-in_default-clause-kept
returns-in_default-clause-kept g c = none_handed g.D.Disk.tells g.L.Log.tells g.D.Disk.history g.L.Log.lines g.D.Disk.faults (closes c.args.desk.now.opening.view.bound.now) c.args.desk.now c.requires.running c.requires.rest c.claim_upkeep.new.self (none_out g.D.Disk.tells g.L.Log.tells g.D.Disk.history g.L.Log.lines g.D.Disk.faults (closes c.args.desk.now.opening.view.bound.now) c.args.desk.now c.requires.running c.requires.rest c.claim_upkeep.new.self _ c.in_default.is c.in_ok-task.ensures.handed)

pub returns-in_default-clause-good : goal.returns-in_default-clause-good
returns-in_default-clause-good g c = λ t good. subst (IsGood g.L.Log.lines) (sym (none_out g.D.Disk.tells g.L.Log.tells g.D.Disk.history g.L.Log.lines g.D.Disk.faults (closes c.args.desk.now.opening.view.bound.now) c.args.desk.now c.requires.running c.requires.rest c.claim_upkeep.new.self _ c.in_default.is c.in_ok-task.ensures.handed).0) good

pub returns-in_default-clause-made : goal.returns-in_default-clause-made
returns-in_default-clause-made g c = none_out g.D.Disk.tells g.L.Log.tells g.D.Disk.history g.L.Log.lines g.D.Disk.faults (closes c.args.desk.now.opening.view.bound.now) c.args.desk.now c.requires.running c.requires.rest c.claim_upkeep.new.self _ c.in_default.is c.in_ok-task.ensures.handed

-- it was handed out
pub report_snapshot-requires-clause-claimed : goal.report_snapshot-requires-clause-claimed
report_snapshot-requires-clause-claimed g c =
    is_claimed g.D.Disk.tells g.L.Log.tells g.D.Disk.history g.L.Log.lines g.D.Disk.faults (closes c.args.desk.now.opening.view.bound.now) c.args.desk.now c.requires.running c.requires.rest c.claim_upkeep.new.self c.in-Some.task _ c.in-Some.is c.in_ok-task.ensures.handed c.claim_upkeep.ensures.counted c.in_ok-task.ensures.read c.claim_upkeep.ensures.same c.keep.result.partition c.keep.result.version c.keep.ensures.partition_is c.keep.ensures.version_is

pub report_snapshot-requires-clause-of : goal.report_snapshot-requires-clause-of
report_snapshot-requires-clause-of g c =
    let of = subst (λ (o : Option (UpkeepTask g.row.D-Stage.Denot)). IfSome o (IsUpkeepOf g.D.Disk.tells g.L.Log.tells g.D.Disk.history g.L.Log.lines g.D.Stage.Stage.written g.D.Stage.Stage.faults c.claim_upkeep.new.self)) c.in-Some.is c.in_ok-task.ensures.task in
    (c.in-Some.task, of, c.keep.ensures)

pub returns-in_err-report_snapshot-clause-kept : goal.returns-in_err-report_snapshot-clause-kept
returns-in_err-report_snapshot-clause-kept g c =
    let of = subst (λ (o : Option (UpkeepTask g.row.D-Stage.Denot)). IfSome o (IsUpkeepOf g.D.Disk.tells g.L.Log.tells g.D.Disk.history g.L.Log.lines g.D.Stage.Stage.written g.D.Stage.Stage.faults c.claim_upkeep.new.self)) c.in-Some.is c.in_ok-task.ensures.task in
    (untaken g.D.Disk.tells g.L.Log.tells g.D.Disk.history g.L.Log.lines g.D.Disk.faults (closes c.args.desk.now.opening.view.bound.now) c.args.desk.now c.requires.running c.requires.rest c.claim_upkeep.new.self c.in-Some.task _ c.in-Some.is c.in_ok-task.ensures.handed c.claim_upkeep.ensures.counted c.in_ok-task.ensures.read c.claim_upkeep.ensures.same c.report_snapshot.new.self c.keep.result.partition c.keep.result.version c.keep.ensures.partition_is c.keep.ensures.version_is c.keep.result.outcome c.report_snapshot.ensures.counted c.in_err-report_snapshot.field-0.0 c.in_err-report_snapshot.ensures.taken (c.in_err-report_snapshot.ensures.cause c.in-Some.task of c.keep.ensures) c.report_snapshot.ensures.same).kept

pub returns-in_err-report_snapshot-clause-good : goal.returns-in_err-report_snapshot-clause-good
returns-in_err-report_snapshot-clause-good g c =
    let of = subst (λ (o : Option (UpkeepTask g.row.D-Stage.Denot)). IfSome o (IsUpkeepOf g.D.Disk.tells g.L.Log.tells g.D.Disk.history g.L.Log.lines g.D.Stage.Stage.written g.D.Stage.Stage.faults c.claim_upkeep.new.self)) c.in-Some.is c.in_ok-task.ensures.task in
    λ t good. (untaken g.D.Disk.tells g.L.Log.tells g.D.Disk.history g.L.Log.lines g.D.Disk.faults (closes c.args.desk.now.opening.view.bound.now) c.args.desk.now c.requires.running c.requires.rest c.claim_upkeep.new.self c.in-Some.task _ c.in-Some.is c.in_ok-task.ensures.handed c.claim_upkeep.ensures.counted c.in_ok-task.ensures.read c.claim_upkeep.ensures.same c.report_snapshot.new.self c.keep.result.partition c.keep.result.version c.keep.ensures.partition_is c.keep.ensures.version_is c.keep.result.outcome c.report_snapshot.ensures.counted c.in_err-report_snapshot.field-0.0 c.in_err-report_snapshot.ensures.taken (c.in_err-report_snapshot.ensures.cause c.in-Some.task of c.keep.ensures) c.report_snapshot.ensures.same).good good

pub returns-in_err-report_snapshot-clause-stopped : goal.returns-in_err-report_snapshot-clause-stopped
returns-in_err-report_snapshot-clause-stopped g c =
    let of = subst (λ (o : Option (UpkeepTask g.row.D-Stage.Denot)). IfSome o (IsUpkeepOf g.D.Disk.tells g.L.Log.tells g.D.Disk.history g.L.Log.lines g.D.Stage.Stage.written g.D.Stage.Stage.faults c.claim_upkeep.new.self)) c.in-Some.is c.in_ok-task.ensures.task in
    on_err c.from_residual-in_err-report_snapshot.result (untaken g.D.Disk.tells g.L.Log.tells g.D.Disk.history g.L.Log.lines g.D.Disk.faults (closes c.args.desk.now.opening.view.bound.now) c.args.desk.now c.requires.running c.requires.rest c.claim_upkeep.new.self c.in-Some.task _ c.in-Some.is c.in_ok-task.ensures.handed c.claim_upkeep.ensures.counted c.in_ok-task.ensures.read c.claim_upkeep.ensures.same c.report_snapshot.new.self c.keep.result.partition c.keep.result.version c.keep.ensures.partition_is c.keep.ensures.version_is c.keep.result.outcome c.report_snapshot.ensures.counted c.in_err-report_snapshot.field-0.0 c.in_err-report_snapshot.ensures.taken (c.in_err-report_snapshot.ensures.cause c.in-Some.task of c.keep.ensures) c.report_snapshot.ensures.same).stopped

-- it was made
pub returns-clause-kept : goal.returns-clause-kept
returns-clause-kept g c =
    let all = taken_is g.D.Disk.tells g.L.Log.tells g.D.Disk.history g.L.Log.lines g.D.Disk.faults (closes c.args.desk.now.opening.view.bound.now) c.args.desk.now c.requires.running c.requires.rest c.claim_upkeep.new.self c.in-Some.task _ c.in-Some.is c.in_ok-task.ensures.handed c.claim_upkeep.ensures.counted c.in_ok-task.ensures.read c.claim_upkeep.ensures.same c.report_snapshot.new.self c.keep.result.partition c.keep.result.version c.keep.ensures.partition_is c.keep.ensures.version_is c.keep.result.outcome c.report_snapshot.ensures.counted (Rises (g.D.Disk.faults c.claim_upkeep.new.self.disk) (g.D.Disk.faults c.report_snapshot.new.self.disk)) c.in_ok-report_snapshot.ensures.taken in
    made_kept g.D.Disk.tells g.L.Log.tells g.D.Disk.history g.L.Log.lines g.D.Disk.faults (closes c.args.desk.now.opening.view.bound.now) c.args.desk.now c.requires.running c.requires.rest c.claim_upkeep.new.self c.in-Some.task _ c.in-Some.is c.in_ok-task.ensures.handed c.claim_upkeep.ensures.counted c.in_ok-task.ensures.read c.claim_upkeep.ensures.same c.report_snapshot.new.self c.keep.result.partition c.keep.result.version c.keep.ensures.partition_is c.keep.ensures.version_is c.keep.result.outcome c.report_snapshot.ensures.counted all

pub returns-clause-good : goal.returns-clause-good
returns-clause-good g c =
    let all = taken_is g.D.Disk.tells g.L.Log.tells g.D.Disk.history g.L.Log.lines g.D.Disk.faults (closes c.args.desk.now.opening.view.bound.now) c.args.desk.now c.requires.running c.requires.rest c.claim_upkeep.new.self c.in-Some.task _ c.in-Some.is c.in_ok-task.ensures.handed c.claim_upkeep.ensures.counted c.in_ok-task.ensures.read c.claim_upkeep.ensures.same c.report_snapshot.new.self c.keep.result.partition c.keep.result.version c.keep.ensures.partition_is c.keep.ensures.version_is c.keep.result.outcome c.report_snapshot.ensures.counted (Rises (g.D.Disk.faults c.claim_upkeep.new.self.disk) (g.D.Disk.faults c.report_snapshot.new.self.disk)) c.in_ok-report_snapshot.ensures.taken in
    λ t good. made_good g.D.Disk.tells g.L.Log.tells g.D.Disk.history g.L.Log.lines g.D.Disk.faults (closes c.args.desk.now.opening.view.bound.now) c.args.desk.now c.requires.running c.requires.rest c.claim_upkeep.new.self c.in-Some.task _ c.in-Some.is c.in_ok-task.ensures.handed c.claim_upkeep.ensures.counted c.in_ok-task.ensures.read c.claim_upkeep.ensures.same c.report_snapshot.new.self c.keep.result.partition c.keep.result.version c.keep.ensures.partition_is c.keep.ensures.version_is c.keep.result.outcome c.report_snapshot.ensures.counted all good

pub returns-clause-made : goal.returns-clause-made
returns-clause-made g c =
    let all = taken_is g.D.Disk.tells g.L.Log.tells g.D.Disk.history g.L.Log.lines g.D.Disk.faults (closes c.args.desk.now.opening.view.bound.now) c.args.desk.now c.requires.running c.requires.rest c.claim_upkeep.new.self c.in-Some.task _ c.in-Some.is c.in_ok-task.ensures.handed c.claim_upkeep.ensures.counted c.in_ok-task.ensures.read c.claim_upkeep.ensures.same c.report_snapshot.new.self c.keep.result.partition c.keep.result.version c.keep.ensures.partition_is c.keep.ensures.version_is c.keep.result.outcome c.report_snapshot.ensures.counted (Rises (g.D.Disk.faults c.claim_upkeep.new.self.disk) (g.D.Disk.faults c.report_snapshot.new.self.disk)) c.in_ok-report_snapshot.ensures.taken in
    is_made g.D.Disk.tells g.L.Log.tells g.D.Disk.history g.L.Log.lines g.D.Disk.faults (closes c.args.desk.now.opening.view.bound.now) c.args.desk.now c.requires.running c.requires.rest c.claim_upkeep.new.self c.in-Some.task _ c.in-Some.is c.in_ok-task.ensures.handed c.claim_upkeep.ensures.counted c.in_ok-task.ensures.read c.claim_upkeep.ensures.same c.report_snapshot.new.self c.keep.result.partition c.keep.result.version c.keep.ensures.partition_is c.keep.ensures.version_is c.keep.result.outcome c.report_snapshot.ensures.counted all (led_by (Owns g.D.Disk.tells g.L.Log.tells g.D.Disk.history g.L.Log.lines c.args.desk.now) g.D.Disk.history (opening_in g.L.Log.lines) c.args.desk.now c.is_legal.ensures)
