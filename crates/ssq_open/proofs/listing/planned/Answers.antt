use Rattle.std.proofs.Common.{◌<◌, arith, length}
use Rattle.ssq_outside.specs.declared.name.Name.TheVariants as name
use Rattle.ssq_open.proofs.Names.{contains_among, plans_below, plans_above, greatest_next, other_plan}
use Rattle.ssq_open.proofs.listing.planned.Goals as goal
use Rattle.ssq_open.proofs.listing.planned.Goals.{in-Plan+then-planned-epoch, in-Plan+else-planned-epoch, in_default}

pub loop-name-preserved : goal.loop-name-preserved
loop-name-preserved c =
    let less : c.loop-name.name-index < length c.args.names.now = omega arith in
    elim c.match-name.branch [
      | in-Plan+then-planned-epoch w ↦ rw w.planned-is (record {
        below = plans_above _ _ _ _ name.Meta less w.in-Plan.is w.if-planned-epoch.true c.loop-name.invariant.below;
        greatest = greatest_next _ _ _ name.Meta less w.in-Plan.is;
        fits = omega arith;
      })
      | in-Plan+else-planned-epoch w ↦ rw w.planned-is (record {
        below = plans_below _ _ _ name.Meta less (other_plan _ _ _ w.in-Plan.is w.if-planned-epoch.false) c.loop-name.invariant.below;
        greatest = c.loop-name.invariant.greatest;
        fits = omega arith;
      })
      | in_default w ↦ rw w.planned-is (record {
        below = plans_below _ _ _ name.Meta less (λ e is. absurd (w.in_default.not-Plan e is)) c.loop-name.invariant.below;
        greatest = c.loop-name.invariant.greatest;
        fits = omega arith;
      })
    ]

pub returns-clause-below : goal.returns-clause-below
returns-clause-below c = λ e has. c.loop-name.invariant.below e (contains_among _ _ _ (omega arith) has)
