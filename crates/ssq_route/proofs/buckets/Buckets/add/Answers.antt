use Rattle.std.proofs.Common.{◌∙◌, ◌<◌, length, arith}
use Rattle.std.proofs.lemmas.Result.{err_from_is_err_and}
use Rattle.ssq_route.proofs.Filling.{kept, pushed, pushed_all, place_within}
use Rattle.ssq_route.proofs.buckets.Buckets.add.Goals as goal

pub returns-in_err-push-clause-err : goal.returns-in_err-push-clause-err
returns-in_err-push-clause-err g c =
    let failed = err_from_is_err_and c.from_residual.result c.from_residual.ensures.1 in
    let within : c.place-at.result < length c.self.inside.buckets.items = omega (arith, c.self.invariant.1, c.place-at.ensures.below) in
    rw failed.1 (kept c.self.inside.buckets.items c.place-at.result c.index_mut.result.now c.push.new.self within c.index_mut.ensures.value c.in_err-push.ensures.items ∙ c.self.view_is)

pub returns-clause-added : goal.returns-clause-added
returns-clause-added g c =
    pushed c.self.inside.buckets.items c.args.self.now c.self.inside.partitions c.place-at.result c.args.key.now c.index_mut.result.now c.push.new.self c.args.item c.self.view_is c.self.invariant.1 c.place-at.ensures.place c.place-at.ensures.below c.index_mut.ensures.value c.in_ok-push.ensures.items

pub returns-clause-all : goal.returns-clause-all
returns-clause-all g c added all =
    let within = place_within c.self.inside.buckets.items c.args.self.now c.self.inside.partitions c.place-at.result c.args.key.now c.self.view_is c.self.invariant.1 c.place-at.ensures.place c.place-at.ensures.below in
    pushed_all c.args.self.now _ c.args.key.now c.args.item added within (returns-clause-added g c) all
