use Rattle.std.proofs.Common.{◌-◌, ◌∙◌, refl, None, arith}
use Rattle.ssq_keys.specs.Spelled.{value_of}
use Rattle.ssq_keys.proofs.ReadLemmas.{nothing_in_front}
use Rattle.ssq_keys.proofs.Timing.{read_begins, read_elsewhere, read_here}
use Rattle.ssq_keys.proofs.key.time_at.Goals.{then-at-place, else-at-place}
use Rattle.ssq_keys.proofs.key.time_at.Goals as goal

pub loop-at-init : goal.loop-at-init
loop-at-init c = read_begins c.args.bytes.now c.args.count c.args.place None refl

pub loop-at-preserved : goal.loop-at-preserved
loop-at-preserved c = elim c.if-at-place.branch [
  | then-at-place w ↦
      read_here c.args.bytes.now c.args.count c.args.place c.loop-at.at c.loop-at.rest.now c.in_ok-value.behind.now (value_of c.in_ok-value.value) c.loop-at.time c.if-at-place.time
      (omega (arith, c.loop-at-test.true)) c.in_ok-value.ensures.found c.in_ok-value.ensures.fit c.in_ok-value.ensures.each w.if-at-place.true (w.time-is ∙ w.time-time.ensures) c.loop-at.invariant
  | else-at-place w ↦
      read_elsewhere c.args.bytes.now c.args.count c.args.place c.loop-at.at c.loop-at.rest.now c.in_ok-value.behind.now (value_of c.in_ok-value.value) c.loop-at.time c.if-at-place.time
      (omega (arith, c.loop-at-test.true)) c.in_ok-value.ensures.found c.in_ok-value.ensures.fit c.in_ok-value.ensures.each w.if-at-place.false w.time-is c.loop-at.invariant
]

pub returns-in_err-value-clause-each : goal.returns-in_err-value-clause-each
returns-in_err-value-clause-each c key fit len is =
    absurd (nothing_in_front c.args.bytes.now c.args.count c.loop-at.invariant.so_far c.loop-at.rest.now (c.args.count - c.loop-at.at) (omega (arith, c.loop-at-test.true))
    c.in_err-value.ensures.each c.loop-at.invariant.each key fit len is)
