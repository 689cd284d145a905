use Rattle.std.proofs.Common.{arith, drop}
use Rattle.ssq_version.specs.State.{given_by}
use Rattle.ssq_version.specs.Text.{shown}
use Rattle.ssq_version.proofs.Filling.{given_ends, given_more}
use Rattle.ssq_version.proofs.Laid.{left_none, left_step}
use Rattle.ssq_version.proofs.entries.given_copies.Goals as goal

pub loop-entry-preserved : goal.loop-entry-preserved
loop-entry-preserved c =
    given_more c.loop-entry.given.items c.push_given.new.given.items (given_by (shown c.args.entries.now)) (shown (drop c.loop-entry.entry-index c.args.entries.now)) _ _ _ c.in_ok-push_given.ensures
    (left_step c.args.entries.now c.loop-entry.entry-index _ c.loop-entry-test.true) c.loop-entry.invariant

pub returns : goal.returns
returns c = given_ends c.loop-entry.given.items (given_by (shown c.args.entries.now)) _ (left_none c.args.entries.now c.loop-entry.entry-index (omega (arith, c.loop-entry-test.false))) c.loop-entry.invariant
