use Rattle.std.proofs.Common.{refl}
use Rattle.ssq_ast.proofs.Boxes.{unary_is, is_null_is, binary_is, between_is}
use Rattle.ssq_ast.proofs.Levels.{no_operator}
use Rattle.ssq_ast.proofs.print.level.Goals as goal

pub returns-in-Unary : goal.returns-in-Unary
returns-in-Unary c = rw (c.in-Unary.is, unary_is c.in-Unary.op c.in-Unary.at c.in-Unary.operand) c.unary_level.ensures

pub returns-in-Binary : goal.returns-in-Binary
returns-in-Binary c = let b = c.in-Binary in rw (b.is, binary_is b.left_at b.left b.op b.at b.right_at b.right) c.binary_level.ensures

pub returns-in_default : goal.returns-in_default
returns-in_default c =
    no_operator c.args.value.now c.in_default.not-Unary c.in_default.not-IsNull c.in_default.not-Binary c.in_default.not-Between

pub returns-in-IsNull : goal.returns-in-IsNull
returns-in-IsNull c = let e = c.in-IsNull in rw (e.is, is_null_is e.operand e.at e.test) refl

pub returns-in-Between : goal.returns-in-Between
returns-in-Between c = let e = c.in-Between in rw (e.is, between_is e.operand e.at e.low e.high) refl
