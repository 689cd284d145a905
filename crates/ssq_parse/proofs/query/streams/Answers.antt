use Rattle.std.proofs.Common.{rules, arith}
use Rattle.std.proofs.lemmas.Grind.{common_steps}
use Rattle.ssq_parse.specs.Queries.{streams_at, streams_from}
use Rattle.ssq_parse.proofs.Turns.{one_more, no_more}
use Rattle.ssq_parse.proofs.query.streams.Goals as goal

pub loop-turn-init : goal.loop-turn-init
unfolding streams_at
loop-turn-init c = first_of (search rules, grind (arith, common_steps))

pub returns-in_default : goal.returns-in_default
unfolding streams_from
returns-in_default c =
    let e = one_more (λ n. streams_from n c.loop-turn.found c.loop-turn.reader) _ c.loop-turn._turn c.loop-turn-test.true c.loop-turn.invariant in
    first_of (search rules, grind (arith, common_steps))

pub returns-in_err-stream : goal.returns-in_err-stream
unfolding streams_from
returns-in_err-stream c =
    let e = one_more (λ n. streams_from n c.loop-turn.found c.loop-turn.reader) _ c.loop-turn._turn c.loop-turn-test.true c.loop-turn.invariant in
    first_of (search rules, grind (arith, common_steps))

pub loop-turn-preserved : goal.loop-turn-preserved
unfolding streams_from
loop-turn-preserved c =
    let e = one_more (λ n. streams_from n c.loop-turn.found c.loop-turn.reader) _ c.loop-turn._turn c.loop-turn-test.true c.loop-turn.invariant in
    first_of (search rules, grind (arith, common_steps))

pub returns : goal.returns
unfolding streams_from
returns c =
    let e = no_more (λ n. streams_from n c.loop-turn.found c.loop-turn.reader) _ c.loop-turn._turn c.loop-turn-test.false c.loop-turn.invariant in
    first_of (search rules, grind (arith, common_steps))
