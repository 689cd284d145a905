use Rattle.std.proofs.Common.{List, sym, subst, arith}
use Rattle.std.specs.Prelude.{IsSome, vec_capacity}
use Rattle.std.proofs.lemmas.List.Elements.{All-head}
use Rattle.ssq_desk.specs.declared.desk.PartLog.{PartLog}
use Rattle.ssq_desk.proofs.Placing.{IsTaking, none_taken, one_taken, all_taken}
use Rattle.ssq_desk.proofs.closed.logs_of.Goals as goal

pub loop-part_log-init : goal.loop-part_log-init
loop-part_log-init g c = (
  tt,
  tt,
  none_taken c.args.part_logs.items c.into_iter-part_log-iterator.result.rest.items c.args.room.items (vec_capacity c.args.room) c.requires.none c.into_iter-part_log-iterator.ensures.into_iter_gives.0 c.requires.there c.requires.fits,
)

pub loop-part_log-preserved : goal.loop-part_log-preserved
loop-part_log-preserved g c =
    let is = subst (λ (rest : List (PartLog g.row.L.Denot)). IsTaking c.args.part_logs.items rest c.loop-part_log.logs.items (vec_capacity c.loop-part_log.logs)) c.in-Some.ensures.steps.0 c.loop-part_log.invariant.2 in
    let own = c.take_over.ensures.taken in (
      tt,
      tt,
      subst (λ (l : List g.row.L.Denot). IsTaking c.args.part_logs.items c.next.new.self.rest.items l (vec_capacity c.take_over.new.logs)) (sym own.2)
          (one_taken c.args.part_logs.items c.in-Some.part_log c.next.new.self.rest.items c.loop-part_log.logs.items own.0 (vec_capacity c.loop-part_log.logs) (vec_capacity c.take_over.new.logs) own.1 (sym c.take_over.ensures.capacity) is),
    )

pub take_over-requires-clause-room : goal.take_over-requires-clause-room
take_over-requires-clause-room g c =
    let is = subst (λ (rest : List (PartLog g.row.L.Denot)). IsTaking c.args.part_logs.items rest c.loop-part_log.logs.items (vec_capacity c.loop-part_log.logs)) c.in-Some.ensures.steps.0 c.loop-part_log.invariant.2 in
    let room = is.room in omega (arith, room)

pub take_over-requires-clause-there : goal.take_over-requires-clause-there
take_over-requires-clause-there g c =
    let is = subst (λ (rest : List (PartLog g.row.L.Denot)). IsTaking c.args.part_logs.items rest c.loop-part_log.logs.items (vec_capacity c.loop-part_log.logs)) c.in-Some.ensures.steps.0 c.loop-part_log.invariant.2 in
    All-head (λ (x : PartLog g.row.L.Denot). IsSome x.log) c.in-Some.part_log c.next.new.self.rest.items is.there

pub returns : goal.returns
returns g c = all_taken c.args.part_logs.items c.loop-part_log.part_log-iterator.rest.items c.loop-part_log.logs.items (vec_capacity c.loop-part_log.logs) (omega (arith, c.in-None.ensures.steps.0, c.loop-part_log.part_log-iterator.rest.ok.0)) c.loop-part_log.invariant.2
