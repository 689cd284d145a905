use Rattle.std.proofs.Common.{rules}
use Rattle.ssq_bind.proofs.Boxed.{shifted_made}
use Rattle.ssq_bind.proofs.value.shifted.Goals as goal

pub returns : goal.returns
returns c = shifted_made c.args.time c.args.by _ (search rules)
