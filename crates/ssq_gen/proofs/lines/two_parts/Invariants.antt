use Rattle.std.proofs.Common.{◌≡◌, ◌≤◌, map}
use Rattle.ssq_gen.specs.Made.{number_at, part_lines}
use Rattle.ssq_gen.proofs.lines.two_parts.Given as goal

-- the lines so far, and the number of the next
abbrev pub invariant-loop-at : goal.invariant-loop-at
invariant-loop-at l = record {
  even : map (λ line. line.items) l.even.items ≡ part_lines l.number l.at 0;
  odd : map (λ line. line.items) l.odd.items ≡ part_lines l.number l.at 1;
  number : l.x ≡ number_at l.number l.at;
  bound : l.x ≤ 65536;
}
