use Rattle.std.proofs.Common.{◌∙◌, ap, is_some}
use Rattle.ssq_check.specs.Keys.{is_window_key}
use Rattle.ssq_check.proofs.keys.Keys.has_window.Goals as goal
use Rattle.ssq_shape.proofs.Places.{some_place}

pub returns : goal.returns
returns c = c.is_some.ensures ∙ ap is_some c.window.ensures ∙ some_place is_window_key c.args.self.now
