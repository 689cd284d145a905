use Rattle.ssq_bind.proofs.Made.{grouped_made}
use Rattle.ssq_bind.proofs.whole.grouped.Goals as goal

pub returns : goal.returns
returns c =
    grouped_made c.args.query.now c.args.context.now c.in_ok-keys.keys c.new-aggregates.result c.outputs_of.new.found c.having_of.new.found c.in_ok-outputs.outputs c.in_ok-having.having c.as_slice-items.result.now
    c.requires.context c.requires.is_grouped c.new-aggregates.ensures c.as_slice-items.ensures c.in_ok-keys.ensures
    c.in_ok-outputs.ensures.outputs c.in_ok-outputs.ensures.found c.in_ok-having.ensures.value c.in_ok-having.ensures.found
