use Rattle.std.proofs.Common.{◌≤◌, ◌^◌, length, subst}
use Rattle.ssq_ledger.specs.Shown.{Shown}
use Rattle.ssq_desk.specs.declared.round.Round.{Round}
use Rattle.ssq_desk.proofs.desk.Desk.is_numbered.Goals as goal

pub returns-clause-partitions : goal.returns-clause-partitions
returns-clause-partitions g c = subst (λ (x : Shown g.row.D.Denot (Round g.row.L.Denot)). 1 ≤ x.opening.view.partitions) c.self.view_is c.self.invariant.round.some_partitions

pub returns-clause-streams : goal.returns-clause-streams
returns-clause-streams g c = subst (λ (x : Shown g.row.D.Denot (Round g.row.L.Denot)). length x.opening.view.bound.now.streams ≤ 2 ^ 32) c.self.view_is c.self.invariant.round.few_streams
