use Rattle.std.proofs.Common.{arith}
use Rattle.ssq_version.proofs.Laid.{given_ends, given_put, is_short_at}
use Rattle.ssq_version.proofs.layers.put_all_given.Goals as goal

pub put_given-requires-clause-key : goal.put_given-requires-clause-key
put_given-requires-clause-key c = (is_short_at c.args.entries.now c.loop-entry.entry-index _ c.requires c.loop-entry-test.true).0

pub put_given-requires-clause-value : goal.put_given-requires-clause-value
put_given-requires-clause-value c = (is_short_at c.args.entries.now c.loop-entry.entry-index _ c.requires c.loop-entry-test.true).1

pub loop-entry-preserved : goal.loop-entry-preserved
loop-entry-preserved c = given_put c.args.entries.now c.loop-entry.entry-index _ c.loop-entry.out c.put_given.new.out _ c.loop-entry-test.true c.in_ok-put_given.ensures c.loop-entry.invariant

pub returns : goal.returns
returns c = given_ends c.args.entries.now c.loop-entry.entry-index c.loop-entry.out _ (omega (arith, c.loop-entry-test.false)) c.loop-entry.invariant
