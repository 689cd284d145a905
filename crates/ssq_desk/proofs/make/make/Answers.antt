use Rattle.std.proofs.Common.{◌≡◌, ◌∙◌, ℕ, true, not, true≢false, List, Option, is_some, Err, length, refl, sym, ap, subst, arith}
use Rattle.std.proofs.lemmas.Result.{err_from_is_err_and}
use Rattle.std.specs.Global.{Vec}
use Rattle.std.specs.Vec.{with_items}
use Rattle.std.proofs.lemmas.List.{with_items_is}
use Rattle.ssq_plans.specs.declared.part.PartEnd.{PartEnd}
use Rattle.ssq_plans.specs.Records.{epoch_after}
use Rattle.ssq_board.specs.declared.front.Front.{Front}
use Rattle.ssq_ledger.specs.Shown.{Shown}
use Rattle.ssq_desk.specs.declared.desk.Share.{Share}
use Rattle.ssq_desk.specs.Room.{AreBegun, AreStaged}
use Rattle.ssq_desk.proofs.Makings.{made_over, put_made, room_over, unmade_by}
use Rattle.ssq_desk.proofs.Wholes.{did_nothing}
use Rattle.ssq_desk.proofs.make.make.Goals as goal

-- one epoch more may be planned
few_by : (planned : ℕ) (next : Option ℕ) → next ≡ epoch_after planned → is_some next ≡ true → planned ≡ 4294967295 → ⊥
few_by planned next is there full = true≢false (sym there ∙ ap is_some (is ∙ ap epoch_after full))

pub returns-clause-made : goal.returns-clause-made
returns-clause-made g c =
    let old = c.args.load.now in
    let mid = c.room_for.new.load in
    let room = c.in_ok-room.room in
    let files = c.in_ok-stages.ensures in
    let ends : c.ends.result.now ≡ c.args.ledger.now.core.ends = c.ends.ensures ∙ ap (λ (s : Shown _ _). s.core.ends) files.did in
    let shares : Vec (Share g.row.D-Stage.Denot) = with_items room.shares c.begin_files.new.shares in
    let all : shares.items ≡ c.begin_files.new.shares = with_items_is room.shares c.begin_files.new.shares (files.count ∙ ap length c.deref_mut.ensures.value ∙ sym room.shares.ok.0) in
    made_over g.D.Disk.tells g.D.Stage.Stage.written c.args.ledger.now.core.ends old mid c.put.new.load room.ends c.in_ok-room.ensures.same
    (put_made g.D.Disk.tells g.D.Stage.Stage.written c.args.ledger.now.core.ends mid c.put.new.load room shares (record { rows = room.rows; seen = room.seen; stages = c.in_ok-stages.stages }) c.in_ok-room.ensures.plan c.in_ok-room.ensures.told
    (ap (λ v. length v.items) c.in_ok-room.ensures.same.part_logs_are ∙ c.requires.each) (room_over old mid room c.in_ok-room.ensures.same c.in_ok-room.ensures.room)
    (subst (λ (news : List (Share g.row.D-Stage.Denot)). AreStaged g.D.Disk.tells g.D.Stage.Stage.written mid.held.items room.shares.items news) (sym all)
    (subst (λ (olds : List (Share g.row.D-Stage.Denot)). AreStaged g.D.Disk.tells g.D.Stage.Stage.written mid.held.items olds c.begin_files.new.shares) c.deref_mut.ensures.value
    (subst (λ held. AreStaged g.D.Disk.tells g.D.Stage.Stage.written held c.deref_mut.result.now c.begin_files.new.shares) c.as_slice.ensures.value files.staged)))
    refl refl (λ t. (files.empty t).0) (λ t. (files.empty t).1)
    (subst (λ (ends : List PartEnd). AreBegun ends mid.part_logs.items c.put.new.load.part_logs.items) ends c.put.ensures.begun) c.put.ensures.rest)

pub returns-in_err-stages-clause-unmade : goal.returns-in_err-stages-clause-unmade
returns-in_err-stages-clause-unmade g c =
    let planned = c.args.ledger.now.core.front.planned in
    let few = few_by c.args.ledger.now.core.front.planned c.next_epoch.result (c.next_epoch.ensures ∙ ap (λ (f : Front). epoch_after f.planned) c.front.ensures) (c.is_none.ensures ∙ ap not c.if-is_none.false) in
    let p = err_from_is_err_and c.from_residual-in_err-stages.result c.from_residual-in_err-stages.ensures.1 in
    rw (p.1, p.2) (unmade_by planned (g.D.Disk.faults c.args.ledger.now.disk) (g.D.Disk.faults c.begin_files.new.ledger.disk) c.in_err-stages.field-0.0 few (λ e. c.in_err-stages.ensures.cause (ap Err e)))

pub returns-then-is_none-clause-did : goal.returns-then-is_none-clause-did
returns-then-is_none-clause-did g c = did_nothing c.args.ledger.now

pub returns-then-is_none-clause-same : goal.returns-then-is_none-clause-same
returns-then-is_none-clause-same g c = λ tells. refl

pub returns-then-is_none-clause-counted : goal.returns-then-is_none-clause-counted
returns-then-is_none-clause-counted g c = omega arith

pub returns-then-is_none-clause-made : goal.returns-then-is_none-clause-made
returns-then-is_none-clause-made g c = tt

pub returns-then-is_none-clause-fits : goal.returns-then-is_none-clause-fits
returns-then-is_none-clause-fits g c = tt

pub returns-in_err-room-clause-did : goal.returns-in_err-room-clause-did
returns-in_err-room-clause-did g c = did_nothing c.args.ledger.now

pub returns-in_err-room-clause-same : goal.returns-in_err-room-clause-same
returns-in_err-room-clause-same g c = λ tells. refl

pub returns-in_err-room-clause-counted : goal.returns-in_err-room-clause-counted
returns-in_err-room-clause-counted g c = omega arith

pub returns-in_err-room-clause-made : goal.returns-in_err-room-clause-made
returns-in_err-room-clause-made g c = (let p = err_from_is_err_and c.from_residual.result c.from_residual.ensures.1 in rw p.1 tt)

pub returns-in_err-room-clause-fits : goal.returns-in_err-room-clause-fits
returns-in_err-room-clause-fits g c = (let p = err_from_is_err_and c.from_residual.result c.from_residual.ensures.1 in rw p.1 tt)

pub returns-in_err-room-clause-kept : goal.returns-in_err-room-clause-kept
returns-in_err-room-clause-kept g c = (let p = err_from_is_err_and c.from_residual.result c.from_residual.ensures.1 in rw p.1 c.room_for.ensures.same)

pub returns-in_err-stages-clause-did : goal.returns-in_err-stages-clause-did
returns-in_err-stages-clause-did g c = c.begin_files.ensures.did

pub returns-in_err-stages-clause-same : goal.returns-in_err-stages-clause-same
returns-in_err-stages-clause-same g c = c.begin_files.ensures.same

pub returns-in_err-stages-clause-counted : goal.returns-in_err-stages-clause-counted
returns-in_err-stages-clause-counted g c = c.begin_files.ensures.counted

pub returns-in_err-stages-clause-made : goal.returns-in_err-stages-clause-made
returns-in_err-stages-clause-made g c = (let p = err_from_is_err_and c.from_residual-in_err-stages.result c.from_residual-in_err-stages.ensures.1 in rw p.1 tt)

pub returns-in_err-stages-clause-fits : goal.returns-in_err-stages-clause-fits
returns-in_err-stages-clause-fits g c = (let p = err_from_is_err_and c.from_residual-in_err-stages.result c.from_residual-in_err-stages.ensures.1 in rw p.1 tt)

pub returns-in_err-stages-clause-kept : goal.returns-in_err-stages-clause-kept
returns-in_err-stages-clause-kept g c = (let p = err_from_is_err_and c.from_residual-in_err-stages.result c.from_residual-in_err-stages.ensures.1 in rw p.1 c.room_for.ensures.same)

pub returns-clause-did : goal.returns-clause-did
returns-clause-did g c = c.begin_files.ensures.did

pub returns-clause-same : goal.returns-clause-same
returns-clause-same g c = c.begin_files.ensures.same

pub returns-clause-counted : goal.returns-clause-counted
returns-clause-counted g c = c.begin_files.ensures.counted

pub returns-clause-unmade : goal.returns-clause-unmade
returns-clause-unmade g c = tt

pub returns-clause-kept : goal.returns-clause-kept
returns-clause-kept g c = tt

pub returns-clause-fits : goal.returns-clause-fits
returns-clause-fits g c = few_by c.args.ledger.now.core.front.planned c.next_epoch.result (c.next_epoch.ensures ∙ ap (λ (f : Front). epoch_after f.planned) c.front.ensures) (c.is_none.ensures ∙ ap not c.if-is_none.false)

pub returns-in_err-room-clause-unmade : goal.returns-in_err-room-clause-unmade
returns-in_err-room-clause-unmade g c =
    let few = few_by c.args.ledger.now.core.front.planned c.next_epoch.result (c.next_epoch.ensures ∙ ap (λ (f : Front). epoch_after f.planned) c.front.ensures) (c.is_none.ensures ∙ ap not c.if-is_none.false) in
    let p = err_from_is_err_and c.from_residual.result c.from_residual.ensures.1 in
    rw (p.1, p.2) (few, tt)

pub put-requires : goal.put-requires
put-requires g c =
    let ends : c.ends.result.now ≡ c.args.ledger.now.core.ends = c.ends.ensures ∙ ap (λ (s : Shown _ _). s.core.ends) c.begin_files.ensures.did in
    record { each = ap (λ v. length v.items) c.in_ok-room.ensures.same.part_logs_are ∙ c.requires.each ∙ sym (ap length ends) }
