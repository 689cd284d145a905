use Rattle.std.proofs.Common.{List, Option, subst}
use Rattle.std.specs.Prelude.{vec_capacity}
use Rattle.ssq_task.specs.declared.partition.Held.{Held}
use Rattle.ssq_desk.proofs.Leaving.{IsParting, one_apart}
use Rattle.ssq_desk.proofs.closed.stores_of.Goals as goal

pub loop-own-preserved : goal.loop-own-preserved
loop-own-preserved c =
    let is = subst (λ (rest : List (Option Held)). IsParting c.args.held.items rest c.loop-own.stores.items c.loop-own.closings.items (vec_capacity c.loop-own.stores) (vec_capacity c.loop-own.closings)) c.in-Some.ensures.steps.0 c.loop-own.invariant.2 in (
      tt,
      tt,
      one_apart c.args.held.items c.next.new.self.rest.items c.in-Some.own c.loop-own.stores.items c.take_apart.new.stores.items c.loop-own.closings.items c.take_apart.new.closings.items
          (vec_capacity c.loop-own.stores) (vec_capacity c.loop-own.closings) (vec_capacity c.take_apart.new.stores) (vec_capacity c.take_apart.new.closings)
          c.take_apart.ensures.stores c.take_apart.ensures.closings c.take_apart.ensures.capacity.0 c.take_apart.ensures.capacity.1 is,
    )
