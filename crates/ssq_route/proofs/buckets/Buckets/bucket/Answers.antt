use Rattle.ssq_route.proofs.Filling.{read_all}
use Rattle.ssq_route.proofs.buckets.Buckets.bucket.Goals as goal

pub returns-clause-all : goal.returns-clause-all
returns-clause-all g c added all =
    read_all c.self.inside.buckets.items c.args.self.now c.args.at c.index.result.now c.as_slice.result.now added c.self.view_is c.requires c.index.ensures c.as_slice.ensures.value all
