use Rattle.std.proofs.Common.{arith}
use Rattle.ssq_join.proofs.Alone.{over_all, over_begins, over_on}
use Rattle.ssq_join.proofs.over.take_all_over.Goals as goal

pub loop-key-init : goal.loop-key-init
loop-key-init c = ((λ met over all are tells. over_begins c.args.bound.now c.args.joining.now met all c.args.found.now tells), c.requires.printable)

pub loop-key-preserved : goal.loop-key-preserved
loop-key-preserved c = (
  (λ met over all are tells.
      over_on c.args.bound.now c.args.joining.now c.args.state.now met over c.args.keys.now are c.loop-key.key-index c.key-item.result (omega (arith, c.loop-key-test.true)) c.key-item.is all c.loop-key.found c.take_over.new.found
      (λ row before held key told. c.in_ok-take_over.ensures.told met row before held key told) (c.loop-key.invariant.0 met over all are tells)),
  c.in_ok-take_over.ensures.printable,
)

pub returns-clause-told : goal.returns-clause-told
returns-clause-told c = λ met over all are tells.
    over_all c.args.bound.now c.args.joining.now c.args.state.now met over c.args.keys.now are c.loop-key.key-index (omega (arith, c.loop-key-test.false)) all c.loop-key.found (c.loop-key.invariant.0 met over all are tells)
