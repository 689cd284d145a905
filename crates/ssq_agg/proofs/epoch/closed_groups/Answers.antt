use Rattle.std.proofs.Common.{length, subst}
use Rattle.std.proofs.lemmas.Result.{IfOk-weaker}
use Rattle.ssq_meaning.specs.Group.{closing_time}
use Rattle.ssq_agg.specs.Holding.{AreRead, entries_at, seen}
use Rattle.ssq_agg.proofs.Fitting.{read_fit}
use Rattle.ssq_agg.proofs.Found.{closed_are}
use Rattle.ssq_agg.proofs.epoch.closed_groups.Goals as goal

pub returns-clause-closed : goal.returns-clause-closed
returns-clause-closed c query own holds indexes =
    IfOk-weaker c.groups_at.result _ _
    (λ groups read.
    closed_are query c.args.grouping.now c.args.state.now own c.args.now (seen c.in_ok-keys.keys.items) groups.items holds (c.in_ok-keys.ensures.keys (length c.args.grouping.now.keys) (closing_time query c.args.grouping.now) c.args.state.now indexes)
    (subst (λ keys. AreRead c.args.grouping.now (entries_at c.args.state.now (seen keys)) groups.items) c.as_slice.ensures.value read))
    c.groups_at.ensures

pub returns-clause-fit : goal.returns-clause-fit
returns-clause-fit c =
    IfOk-weaker c.groups_at.result _ _ (λ groups read. read_fit c.args.grouping.now (entries_at c.args.state.now (seen c.as_slice.result.now)) groups.items read) c.groups_at.ensures
