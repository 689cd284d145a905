use Rattle.std.proofs.Common.{rules, arith, ◌≡◌, suc, ◌+◌, ◌-◌}
use Rattle.std.proofs.lemmas.Grind.{common_steps}
use Rattle.ssq_parse.specs.Expressions.{Reader, further, chain}
use Rattle.ssq_parse.specs.Nests.{IsReadBy}
use Rattle.ssq_parse.proofs.Turns.{one_more, no_more}
use Rattle.ssq_parse.proofs.expr.chain.Given.{Over, F-post}
use Rattle.ssq_parse.proofs.expr.chain.Goals as goal
use Rattle.ssq_parse.proofs.expr.chain.Goals.{After-operand-in-loop-turn}

pub returns-in_err-left : goal.returns-in_err-left
returns-in_err-left g c = λ own is.
    let first = is.reads _ _ _ c.operand.ensures in
    first_of (search rules, grind (arith, common_steps))

pub loop-turn-init : goal.loop-turn-init
loop-turn-init g c = λ own is.
    let first = is.reads _ _ _ c.operand.ensures in
    first_of (search rules, grind (arith, common_steps))

pub returns-in_default : goal.returns-in_default
unfolding further
returns-in_default g c = λ own is.
    let e = one_more (λ n. further c.args.level own n c.loop-turn.left c.loop-turn.reader) 64 c.loop-turn._turn c.loop-turn-test.true (c.loop-turn.invariant own is) in
    first_of (search rules, grind (arith, common_steps))

-- the chain goes on with the operand of a turn
goes_on : (g : Over) → (c : After-operand-in-loop-turn g) → (own : Reader) → IsReadBy own (F-post g c.args.operand)
    → chain c.args.level own c.args.reader.now ≡ further c.args.level own (suc (64 - (c.loop-turn._turn + 1))) c.loop-turn.left c.loop-turn.reader
goes_on g c own is = one_more (λ n. further c.args.level own n c.loop-turn.left c.loop-turn.reader) 64 c.loop-turn._turn c.loop-turn-test.true (c.loop-turn.invariant own is)

pub returns-in_err-right : goal.returns-in_err-right
unfolding further
returns-in_err-right g c = λ own is.
    let right = is.reads _ _ _ c.operand-in-loop-turn.ensures in
    let e = goes_on g (goal.at.returns-in_err-right g c).After-operand-in-loop-turn own is in
    first_of (search rules, grind (arith, common_steps))

pub returns-in_err-left-2 : goal.returns-in_err-left-2
unfolding further
returns-in_err-left-2 g c = λ own is.
    let right = is.reads _ _ _ c.operand-in-loop-turn.ensures in
    let e = goes_on g (goal.at.returns-in_err-left-2 g c).After-operand-in-loop-turn own is in
    first_of (search rules, grind (arith, common_steps))

pub loop-turn-preserved : goal.loop-turn-preserved
unfolding further
loop-turn-preserved g c = λ own is.
    let right = is.reads _ _ _ c.operand-in-loop-turn.ensures in
    let e = goes_on g (goal.at.loop-turn-preserved g c).After-operand-in-loop-turn own is in
    first_of (search rules, grind (arith, common_steps))

pub returns : goal.returns
unfolding further
returns g c = λ own is.
    let e = no_more (λ n. further c.args.level own n c.loop-turn.left c.loop-turn.reader) 64 c.loop-turn._turn c.loop-turn-test.false (c.loop-turn.invariant own is) in
    first_of (search rules, grind (arith, common_steps))
