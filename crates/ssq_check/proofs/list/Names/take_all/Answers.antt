use Rattle.std.proofs.Common.{◌≡◌, arith, subst, take, []}
use Rattle.std.proofs.lemmas.List.{take_all as take_whole}
use Rattle.ssq_check.specs.Fault.{FirstOf}
use Rattle.ssq_check.specs.Lists.{Doubled, names_from}
use Rattle.ssq_check.proofs.Lists.{take_one, noted_none, noted_more}
use Rattle.ssq_check.proofs.list.Names.take_all.Goals as goal

pub loop-item-init : goal.loop-item-init
loop-item-init g c = noted_none g.N.Named.name g.N.Named.named_at c.args.self.now.double c.args.self.now.seen.keys c.requires.seen c.requires.double

pub loop-item-preserved : goal.loop-item-preserved
loop-item-preserved g c =
    noted_more g.N.Named.name g.N.Named.named_at (take c.loop-item.item-index c.args.items.now) _ c.item-item.result c.name.result.now c.named_at.result c.loop-item.self.double _ c.loop-item.self.seen.keys _
    (take_one c.args.items.now c.loop-item.item-index c.item-item.result c.loop-item-test.true c.item-item.is) c.name.ensures c.named_at.ensures c.in_ok-take.ensures.double c.in_ok-take.ensures.seen
    c.loop-item.invariant

pub returns-clause-first : goal.returns-clause-first
returns-clause-first g c =
    subst (λ xs. FirstOf (Doubled g.N.Named.name g.N.Named.named_at [] xs) c.loop-item.self.double) (take_whole c.loop-item.item-index c.args.items.now (omega (arith, c.loop-item-test.false))) c.loop-item.invariant.first

pub returns-clause-names : goal.returns-clause-names
returns-clause-names g c =
    subst (λ xs. c.loop-item.self.seen.keys ≡ names_from g.N.Named.name [] xs) (take_whole c.loop-item.item-index c.args.items.now (omega (arith, c.loop-item-test.false))) c.loop-item.invariant.names
