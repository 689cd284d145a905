use Rattle.std.proofs.Common.{sym, ◌∙◌}
use Rattle.ssq_json.proofs.Restoring.{long_stamp, short_stamp}
use Rattle.ssq_json.proofs.stored.stamp_len.Goals as goal

pub returns-then-has_point : goal.returns-then-has_point
returns-then-has_point c = λ time rest is. long_stamp time rest c.args.text.now is (sym c.has_point.ensures ∙ c.if-has_point.true)

pub returns-else-has_point : goal.returns-else-has_point
returns-else-has_point c = λ time rest is. short_stamp time rest c.args.text.now is (sym c.has_point.ensures ∙ c.if-has_point.false)
