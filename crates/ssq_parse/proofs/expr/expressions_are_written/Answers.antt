use Rattle.ssq_parse.proofs.Whole.{whole_sound}
use Rattle.ssq_parse.proofs.expr.expressions_are_written.Goals as goal

pub returns : goal.returns
returns c = whole_sound
