use Rattle.std.proofs.Common.{◌+◌, All, arith, sym, subst, drop}
use Rattle.std.proofs.lemmas.List.Elements.{All-push}
use Rattle.ssq_agg.specs.Readable.{IsFitTotal}
use Rattle.ssq_agg.proofs.Totalling.{none_on, step_is}
use Rattle.ssq_agg.proofs.total.nothing.Goals as goal

pub loop-aggregate-preserved : goal.loop-aggregate-preserved
loop-aggregate-preserved c =
    let all = c.args.aggregates.now in
    let aggregate = c.aggregate-item.result in
    let step = step_is all c.loop-aggregate.aggregate-index aggregate (omega (arith, c.loop-aggregate-test.true)) c.aggregate-item.is in
    let push = c.in_ok-push.ensures.items in (
      none_on all (drop (c.loop-aggregate.aggregate-index + 1) all) aggregate c.loop-aggregate.aggregate-index c.loop-aggregate.totals.items c.push.new.self.items _ c.none_of.result step c.none_of.ensures.total push
          c.loop-aggregate.invariant.0,
      subst (All IsFitTotal) (sym push) (All-push IsFitTotal c.loop-aggregate.totals.items c.none_of.result c.loop-aggregate.invariant.1 c.none_of.ensures.fit),
    )
