use Rattle.std.proofs.Common.{◌≡◌, ◌<◌, ◌∙◌, Bool, true, false, None, ap, arith, length, refl}
use Rattle.std.specs.Prelude.{IsTrue}
use Rattle.ssq_plans.specs.declared.plan.Plan.{Plan}
use Rattle.ssq_open.proofs.Planning.{same_next, marked_below, marked_badly, none_same}
use Rattle.ssq_open.proofs.commits.first_mismarked.Goals as goal

not_told : (told : Bool) → IsTrue told → told ≡ false → ⊥
not_told told is not_so = cc

pub loop-epoch-init : goal.loop-epoch-init
loop-epoch-init c = none_same c.args.plans.now c.args.marks.now

pub returns-clause-none : goal.returns-clause-none
returns-clause-none c = λ streams files spelled each e less.
    let all : c.loop-epoch.epoch ≡ length c.args.plans.now = omega arith in
    marked_below streams files c.args.plans.now c.args.marks.now (length c.args.plans.now) spelled each (omega arith) c.requires.each (rw all at c.loop-epoch.invariant) e less

pub returns-then-not-is_mark-clause-some : goal.returns-then-not-is_mark-clause-some
returns-then-not-is_mark-clause-some c = λ streams files spelled each.
    let less : c.loop-epoch.epoch < length c.args.plans.now = omega arith in
    (c.loop-epoch.epoch, refl, less, marked_badly streams files c.args.plans.now c.args.marks.now c.loop-epoch.epoch c.index-plans-epoch.result None spelled each less c.requires.each c.loop-epoch.invariant (λ is. not_told _ (c.is_mark.ensures.1 (ap (λ (q : Plan). q.watermark) c.index-plans-epoch.is ∙ is)) c.if-not-is_mark.true))

pub loop-epoch-preserved : goal.loop-epoch-preserved
loop-epoch-preserved c =
    let less : c.loop-epoch.epoch < length c.args.plans.now = omega arith in
    let told : c.is_mark.result ≡ true = c.if-not-is_mark.false in
    same_next c.args.plans.now c.args.marks.now c.loop-epoch.epoch c.index-plans-epoch.result None less c.requires.each c.index-plans-epoch.is (c.is_mark.ensures.0 told) c.loop-epoch.invariant
