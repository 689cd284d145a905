use Rattle.std.proofs.Common.{◌∙◌, sym}
use Rattle.ssq_bind.proofs.LimitLemmas.{limits_if_unbroken}
use Rattle.ssq_bind.proofs.SameQueries.{places_are_ignored}
use Rattle.ssq_bind.proofs.WellTyped.{typed_if_unbroken}
use Rattle.ssq_bind.proofs.WindowLemmas.{windows_if_written}
use Rattle.ssq_bind.proofs.whole.bind.Goals as goal

pub returns-clause-windows : goal.returns-clause-windows
returns-clause-windows c = windows_if_written c.args.query.now c.in-Ok.bound c.in-Ok.ensures.bound c.in_ok-check.ensures.taken

pub returns-clause-limits : goal.returns-clause-limits
returns-clause-limits c = limits_if_unbroken c.args.query.now c.in-Ok.bound c.in-Ok.ensures.bound c.in_ok-check.ensures.taken

pub returns-clause-typed : goal.returns-clause-typed
returns-clause-typed c = typed_if_unbroken c.args.query.now c.in-Ok.bound c.in-Ok.ensures.bound c.in_ok-check.ensures.taken

pub returns-clause-places : goal.returns-clause-places
returns-clause-places c = λ other same. places_are_ignored c.args.query.now other same ∙ sym c.in-Ok.ensures.bound
