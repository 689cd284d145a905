use Rattle.ssq_gen.proofs.Turns.{first_number, lines-next, no_lines, number-next}
use Rattle.ssq_gen.proofs.lines.two_parts.Goals as goal

pub loop-at-init : goal.loop-at-init
loop-at-init c = record {
  even = no_lines (λ line. line.items) c.args.number 0 c.new-even.result.items c.new-even.ensures.items;
  odd = no_lines (λ line. line.items) c.args.number 1 c.new-odd.result.items c.new-odd.ensures.items;
  number = first_number c.args.number;
  bound = c.requires.number;
}

pub loop-at-preserved : goal.loop-at-preserved
loop-at-preserved c = record {
  even = lines-next (λ line. line.items) c.args.number c.loop-at.at 0 c.loop-at.x c.loop-at.even.items c.put_line.new.even.items c.in_ok-line.line c.loop-at.invariant.even c.loop-at.invariant.number c.in_ok-line.ensures c.in_ok-put_line.ensures.even;
  odd = lines-next (λ line. line.items) c.args.number c.loop-at.at 1 c.loop-at.x c.loop-at.odd.items c.put_line.new.odd.items c.in_ok-line.line c.loop-at.invariant.odd c.loop-at.invariant.number c.in_ok-line.ensures c.in_ok-put_line.ensures.odd;
  number = number-next c.args.number c.loop-at.at c.loop-at.x _ c.loop-at.invariant.number c.next_number-x.ensures.value;
  bound = c.next_number-x.ensures.bound;
}
