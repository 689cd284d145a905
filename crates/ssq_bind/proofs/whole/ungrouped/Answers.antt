use Rattle.ssq_bind.proofs.Made.{ungrouped_made}
use Rattle.ssq_bind.proofs.whole.ungrouped.Goals as goal

pub returns : goal.returns
returns c =
    ungrouped_made c.args.query.now c.args.context.now c.new-none.result c.in_ok-outputs.outputs c.as_slice-items.result.now c.in_ok-shape.shape
    c.requires.context c.requires.is_ungrouped c.new-none.ensures c.as_slice-items.ensures c.in_ok-outputs.ensures.outputs c.in_ok-shape.ensures
