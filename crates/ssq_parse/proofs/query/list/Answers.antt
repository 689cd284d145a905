use Rattle.std.proofs.Common.{rules, arith}
use Rattle.std.proofs.lemmas.Grind.{common_steps}
use Rattle.ssq_parse.specs.Queries.{list_at, list_from}
use Rattle.ssq_parse.proofs.Turns.{one_more, no_more}
use Rattle.ssq_parse.proofs.query.list.Goals as goal

pub loop-turn-init : goal.loop-turn-init
unfolding list_at
loop-turn-init g c = first_of (search rules, grind (arith, common_steps))

pub returns-in_err-read : goal.returns-in_err-read
unfolding list_from
returns-in_err-read g c =
    let e = one_more (λ n. list_from g.T.Part.reading n c.loop-turn.found c.loop-turn.reader) _ c.loop-turn._turn c.loop-turn-test.true c.loop-turn.invariant in
    first_of (search rules, grind (arith, common_steps))

pub returns-then-is_none : goal.returns-then-is_none
unfolding list_from
returns-then-is_none g c =
    let e = one_more (λ n. list_from g.T.Part.reading n c.loop-turn.found c.loop-turn.reader) _ c.loop-turn._turn c.loop-turn-test.true c.loop-turn.invariant in
    first_of (search rules, grind (arith, common_steps))

pub loop-turn-preserved : goal.loop-turn-preserved
unfolding list_from
loop-turn-preserved g c =
    let e = one_more (λ n. list_from g.T.Part.reading n c.loop-turn.found c.loop-turn.reader) _ c.loop-turn._turn c.loop-turn-test.true c.loop-turn.invariant in
    first_of (search rules, grind (arith, common_steps))

pub returns : goal.returns
unfolding list_from
returns g c =
    let e = no_more (λ n. list_from g.T.Part.reading n c.loop-turn.found c.loop-turn.reader) _ c.loop-turn._turn c.loop-turn-test.false c.loop-turn.invariant in
    first_of (search rules, grind (arith, common_steps))
