use Rattle.std.proofs.Common.{◌<◌, ◌∙◌, length, not, ap, sym, arith}
use Rattle.ssq_open.proofs.Marks.{least-none, least-some}
use Rattle.ssq_open.proofs.streams.mark_by.Goals as goal

pub returns-then-is_none : goal.returns-then-is_none
returns-then-is_none c =
    let less : c.loop-at.at < length c.args.streams.now = omega arith in
    sym (c.loop-at.invariant ∙ least-none c.loop-at.at c.loop-at.least c.mark_of-mark.result c.args.streams.now c.args.seen.now _ c.seen_at-own.result less c.requires c.seen_at-own.ensures c.mark_of-mark.ensures (c.is_none.ensures ∙ ap not c.if-is_none.true))

pub loop-at-preserved : goal.loop-at-preserved
loop-at-preserved c =
    let less : c.loop-at.at < length c.args.streams.now = omega arith in
    rw c.lesser-least.ensures (c.loop-at.invariant ∙ least-some c.loop-at.at c.loop-at.least c.mark_of-mark.result c.args.streams.now c.args.seen.now _ c.seen_at-own.result less c.requires c.seen_at-own.ensures c.mark_of-mark.ensures (c.is_none.ensures ∙ ap not c.if-is_none.false))
