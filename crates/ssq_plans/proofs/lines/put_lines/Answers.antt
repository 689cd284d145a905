-- Each line is put after those before it.
use Rattle.std.proofs.Common.{arith, rules}
use Rattle.ssq_plans.proofs.Listing.{left_first, left_next, left_none}
use Rattle.ssq_plans.proofs.lines.put_lines.Goals as goal

pub loop-at-init : goal.loop-at-init
loop-at-init g c = λ held is. left_first g.L.Line.spelled c.args.items.now held c.args.out.now is

pub loop-at-preserved : goal.loop-at-preserved
loop-at-preserved g c = λ held is. left_next g.L.Line.spelled c.loop-at.at c.args.items.now _ c.loop-at.out c.put.new.out c.index-items-at.result c.put.ensures c.loop-at-test.true (search rules) (c.loop-at.invariant held is)

pub returns : goal.returns
returns g c = λ held is. left_none g.L.Line.spelled c.loop-at.at c.args.items.now _ c.loop-at.out (omega (arith, c.loop-at-test.false)) (c.loop-at.invariant held is)
