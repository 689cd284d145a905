use Rattle.std.proofs.Common.{◌≡◌, ◌-◌}
use Rattle.ssq_parse.specs.Expressions.{Reader, further, chain}
use Rattle.ssq_parse.specs.Nests.{IsReadBy}
use Rattle.ssq_parse.proofs.expr.chain.Given as goal

-- whatever the operand is read as
abbrev pub invariant-loop-turn : goal.invariant-loop-turn
invariant-loop-turn g l = (own : Reader) → IsReadBy own (goal.F-post g l.operand) → chain l.level own l.fn.reader ≡ further l.level own (64 - l._turn) l.left l.reader
