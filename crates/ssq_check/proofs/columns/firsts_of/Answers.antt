use Rattle.std.proofs.Common.{◌<◌, rules, length, arith, length-take-le, subst, sym, take}
use Rattle.std.proofs.lemmas.List.{take_all}
use Rattle.ssq_check.specs.Columns.{FindsFirsts}
use Rattle.ssq_check.proofs.Lists.{take_one}
use Rattle.ssq_check.proofs.columns.firsts_of.Goals as goal

pub loop-at-preserved : goal.loop-at-preserved
loop-at-preserved c =
    let inside : c.loop-at.at < length c.args.columns.now = omega (arith, c.loop-at-test.true) in
    subst (λ columns. FindsFirsts columns c.note.new.firsts) (sym (take_one c.args.columns.now c.loop-at.at c.index-columns-at.result inside (search rules)))
    (c.in_ok-note.ensures (take c.loop-at.at c.args.columns.now) (length-take-le c.loop-at.at c.args.columns.now (omega (arith, inside))) c.loop-at.invariant)

pub returns : goal.returns
returns c = subst (λ columns. FindsFirsts columns c.loop-at.firsts) (take_all c.loop-at.at c.args.columns.now (omega (arith, c.loop-at-test.false))) c.loop-at.invariant
