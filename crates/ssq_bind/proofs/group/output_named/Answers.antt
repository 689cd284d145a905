use Rattle.std.proofs.Common.{ap, sym, rules}
use Rattle.ssq_check.proofs.Behind.{one_found, none_found}
use Rattle.ssq_bind.specs.Shapes.{is_output}
use Rattle.ssq_bind.specs.Value.{or_zero}
use Rattle.ssq_bind.proofs.group.output_named.Goals as goal

pub returns-then-eq : goal.returns-then-eq
returns-then-eq c =
    sym (ap or_zero (one_found (is_output c.args.name.now) c.args.items.now c.loop-at.at c.loop-at.invariant c.index-items-at.result (search rules) (search rules) (search rules)))

pub returns : goal.returns
returns c = sym (ap or_zero (none_found (is_output c.args.name.now) c.args.items.now c.loop-at.at c.loop-at.invariant (search rules)))
