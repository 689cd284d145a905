use Rattle.std.proofs.Common.{arith, drop}
use Rattle.ssq_version.specs.Text.{shown}
use Rattle.ssq_version.proofs.Laid.{copied_ends, copied_more, left_none, left_step}
use Rattle.ssq_version.proofs.entries.changed_copies.Goals as goal

pub loop-entry-preserved : goal.loop-entry-preserved
loop-entry-preserved c =
    copied_more c.loop-entry.made.items c.push.new.self.items (shown c.args.entries.now) (shown (drop c.loop-entry.entry-index c.args.entries.now)) _ _ _ c.in_ok-push.ensures.items c.in_ok-changed_copy.ensures
    (left_step c.args.entries.now c.loop-entry.entry-index _ c.loop-entry-test.true) c.loop-entry.invariant

pub returns : goal.returns
returns c = copied_ends c.loop-entry.made.items (shown c.args.entries.now) _ (left_none c.args.entries.now c.loop-entry.entry-index (omega (arith, c.loop-entry-test.false))) c.loop-entry.invariant
