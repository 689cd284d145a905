use Rattle.std.proofs.Common.{rules, ◌+◌, ◌≤◌, length}
use Rattle.ssq_shape.specs.Evaluation.{longest}
use Rattle.ssq_expr.proofs.Texts.{texts_joined}
use Rattle.ssq_expr.proofs.operators.together.Goals as goal

pub returns : goal.returns
returns c =
    let short : length c.args.a.now + length c.args.b.now ≤ longest = search rules in
    texts_joined c.args.a.now c.args.b.now c.from_string.result short c.utf8.a c.utf8.b (search rules)
