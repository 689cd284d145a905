use Rattle.std.proofs.Common.{◌∙◌, ap, not}
use Rattle.ssq_fakes.proofs.NameSets.{set_has, set_with}
use Rattle.ssq_fakes.proofs.names.add.Goals as goal

pub returns-clause-new : goal.returns-clause-new
returns-clause-new c = c.in_ok-insert.ensures.added ∙ ap not (set_has c.args.names.now.keys c.args.name)

pub returns-clause-added : goal.returns-clause-added
returns-clause-added c = λ q. set_with c.args.name q c.args.names.now.keys c.insert.new.self.keys (c.in_ok-insert.ensures.updates.0 q)
