use Rattle.std.proofs.Common.{[], ap, set, ◌∙◌}
use Rattle.ssq_route.proofs.Filling.{replaced}
use Rattle.ssq_route.proofs.buckets.Buckets.take.Goals as goal

pub returns-clause-rest : goal.returns-clause-rest
returns-clause-rest g c =
    replaced c.self.inside.buckets.items c.args.at c.replace.new.dest [] (ap (λ v. v.items) c.replace.ensures.after ∙ c.new.ensures.items) ∙ ap (λ v. set v c.args.at []) c.self.view_is
