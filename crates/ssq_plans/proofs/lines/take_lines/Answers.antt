-- Items are read as long as a line stands in front, and the list whose lines they are is read whole.
use Rattle.ssq_plans.proofs.Listing.{found_none, read_none, left_starts, found_pushed, read_pushed, left_pushed, left_ends}
use Rattle.ssq_plans.proofs.lines.take_lines.Goals as goal

pub loop-item-init : goal.loop-item-init
loop-item-init g c = record {
  found = found_none g.L.Line.spelled c.new-items.result c.args.text.now c.new-items.ensures;
  read = read_none g.L.Line.is_read c.new-items.result c.new-items.ensures;
  each = λ items tail all stop is. left_starts g.L.Line.spelled items c.new-items.result tail c.args.text.now c.new-items.ensures is;
}

pub loop-item-preserved : goal.loop-item-preserved
loop-item-preserved g c = record {
  found = found_pushed g.L.Line.spelled c.args.text.now c.loop-item.items c.push.new.self c.loop-item.rest.now c.in-Some.item c.in-Some.behind.now c.len.result c.len.ensures c.in_ok-push.ensures.ok c.loop-item.invariant.found c.in-Some.ensures.found;
  read = read_pushed g.L.Line.is_read c.loop-item.items c.push.new.self c.in-Some.item c.in_ok-push.ensures.ok c.loop-item.invariant.read c.in-Some.ensures.read;
  each = λ items tail all stop is.
      left_pushed g.L.Line.is_read g.L.Line.spelled items tail c.loop-item.items c.push.new.self c.loop-item.rest.now c.in-Some.item c.in-Some.behind.now c.len.result c.len.ensures c.in_ok-push.ensures.ok
      (c.loop-item.invariant.each items tail all stop is) all stop c.in-Some.ensures.found c.in-Some.ensures.each;
}

pub returns-clause-each : goal.returns-clause-each
returns-clause-each g c items tail all stop is =
    left_ends g.L.Line.is_read g.L.Line.spelled items tail c.loop-item.items c.loop-item.rest.now c.len.result c.len.ensures
    (c.loop-item.invariant.each items tail all stop is) all c.in_default.ensures.each
