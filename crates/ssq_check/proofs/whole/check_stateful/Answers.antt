use Rattle.std.proofs.Common.{subst, Bool, ◌||◌}
use Rattle.ssq_check.specs.Fault.{FirstOf}
use Rattle.ssq_check.specs.Lists.{Where}
use Rattle.ssq_check.specs.Names.{is_there}
use Rattle.ssq_check.specs.Whole.{DeduplicatedTwice, GroupedTwice}
use Rattle.ssq_check.proofs.First.{first_sooner}
use Rattle.ssq_check.proofs.whole.check_stateful.Goals as goal

pub returns : goal.returns
returns c =
    rw c.sooner.ensures
    (first_sooner (Where (DeduplicatedTwice c.args.is_join) c.args.deduplicate.now) (Where (GroupedTwice (c.args.is_join || is_there c.args.deduplicate.now)) c.args.grouped) c.check_twice.result c.check_grouped.result
    c.check_twice.ensures
    (subst (λ (other : Bool). FirstOf (Where (GroupedTwice other) c.args.grouped) c.check_grouped.result) c.is_either-is_other.ensures c.check_grouped.ensures))
