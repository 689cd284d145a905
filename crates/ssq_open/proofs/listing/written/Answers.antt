use Rattle.std.proofs.Common.{◌<◌, arith, length}
use Rattle.ssq_outside.specs.declared.name.Name.TheVariants as name
use Rattle.ssq_open.proofs.Names.{written_there, written_absent, still_absent, other_out}
use Rattle.ssq_open.proofs.listing.written.Goals as goal
use Rattle.ssq_open.proofs.listing.written.Goals.{in-Out+then-epoch-written, in-Out+else-epoch-written, in_default}

pub loop-name-preserved : goal.loop-name-preserved
loop-name-preserved c =
    let less : c.loop-name.name-index < length c.args.names.now = omega arith in
    elim c.match-name.branch [
      | in-Out+then-epoch-written w ↦ rw w.written-is (record {
        there = written_there _ _ _ _ name.Meta less w.in-Out.is w.if-epoch-written.true c.loop-name.invariant.there;
        absent = λ order. written_absent _ _ _ _ name.Meta order less w.in-Out.is w.if-epoch-written.true;
        fits = omega arith;
      })
      | in-Out+else-epoch-written w ↦ rw w.written-is (record {
        there = c.loop-name.invariant.there;
        absent = λ order. still_absent _ _ _ name.Meta less (other_out _ _ _ w.in-Out.is w.if-epoch-written.false) (c.loop-name.invariant.absent order);
        fits = omega arith;
      })
      | in_default w ↦ rw w.written-is (record {
        there = c.loop-name.invariant.there;
        absent = λ order. still_absent _ _ _ name.Meta less (w.in_default.not-Out _) (c.loop-name.invariant.absent order);
        fits = omega arith;
      })
    ]
