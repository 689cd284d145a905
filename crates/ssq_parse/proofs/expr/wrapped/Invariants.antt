use Rattle.std.proofs.Common.{◌≡◌, map, ◌≤◌, length, take}
use Rattle.ssq_lex.specs.Lexeme.{lexed}
use Rattle.ssq_parse.specs.Trees.{wrapped}
use Rattle.ssq_parse.proofs.expr.wrapped.Given as goal

abbrev pub invariant-loop-left : goal.invariant-loop-left
invariant-loop-left l = (l.left ≤ length l.tokens) × (wrapped l.op (take l.left (map lexed l.tokens)) l.tree ≡ wrapped l.op (map lexed l.tokens) l.fn.operand)

abbrev pub decreases-loop-left : goal.decreases-loop-left
decreases-loop-left l = l.left
