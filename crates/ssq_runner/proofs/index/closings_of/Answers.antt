use Rattle.std.proofs.Common.{◌+◌, List, take, sym, subst}
use Rattle.ssq_store.specs.declared.store.Store.{Store}
use Rattle.ssq_step.specs.Indexing.{IsIndex, Timed}
use Rattle.ssq_runner.proofs.Indexing.{AreIndexed, indexed_all, indexed_next}
use Rattle.ssq_runner.proofs.index.closings_of.Goals as goal

pub loop-store-preserved : goal.loop-store-preserved
loop-store-preserved c =
    subst (λ (own : List (List Timed)). AreIndexed c.args.bound.now (take (c.loop-store.store-index + 1) c.args.stores.now) own) (sym c.in_ok-push.ensures.items)
    (indexed_next c.args.bound.now c.args.stores.now c.loop-store.closings.items c.loop-store.store-index c.store-item.result c.in_ok-closing.closing c.loop-store-test.true c.loop-store.invariant
    (subst (λ (own : Store). IsIndex c.args.bound.now own.state c.in_ok-closing.closing) c.store-item.is c.in_ok-closing.ensures))

pub returns : goal.returns
returns c = indexed_all c.args.bound.now c.args.stores.now c.loop-store.closings.items c.loop-store.store-index c.loop-store-test.false c.loop-store.invariant
