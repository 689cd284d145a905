use Rattle.std.proofs.Common.{◌≡◌, get_or, length, take, sym, subst, arith}
use Rattle.std.proofs.lemmas.List.{take_more}
use Rattle.ssq_outside.specs.declared.name.Name.TheVariants.{Meta}
use Rattle.ssq_sink.proofs.Passes.{CountsOuts, none_counted, one_counted, all_counted, take-all}
use Rattle.ssq_sink.proofs.reading.count_sinks.Goals as goal

pub loop-name-init : goal.loop-name-init
loop-name-init c = none_counted

pub loop-name-preserved : goal.loop-name-preserved
loop-name-preserved c =
    let names = c.args.names.now in
    let at = c.loop-name.name-index in
    subst (λ all. CountsOuts all c.raised-count.result) (sym (take_more names at Meta c.loop-name-test.true))
    (one_counted (take at names) (get_or names at Meta) c.loop-name.count c.raised-count.result (c.raised-count.ensures.few c.loop-name.invariant.few) c.raised-count.ensures.is c.loop-name.invariant)

pub returns-clause-counted : goal.returns-clause-counted
returns-clause-counted c =
    let all : length c.args.names.now ≡ c.loop-name.name-index = omega (arith, c.loop-name-test.false, c.loop-name.auto.name-index-end) in
    all_counted c.args.names.now c.loop-name.count (subst (λ names. CountsOuts names c.loop-name.count) (take-all c.args.names.now c.loop-name.name-index all) c.loop-name.invariant)

pub returns-clause-few : goal.returns-clause-few
returns-clause-few c = c.loop-name.invariant.few
