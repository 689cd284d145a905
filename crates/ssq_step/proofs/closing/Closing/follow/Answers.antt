use Rattle.std.proofs.Common.{List, sym, subst}
use Rattle.ssq_step.specs.Indexing.{IsIndex, Timed}
use Rattle.ssq_step.proofs.closing.Closing.follow.Goals as goal

pub returns : goal.returns
returns c new after index =
    c.follow_change.ensures new after (subst (λ (entries : List Timed). IsIndex c.args.bound.now c.args.state.now entries) (sym c.self.view_is) index)
