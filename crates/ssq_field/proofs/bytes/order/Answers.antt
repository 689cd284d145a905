use Rattle.std.proofs.Common.{◌∙◌, sym, subst, ap, ap₂, arith, length}
use Rattle.std.specs.Ordering.{nat_cmp}
use Rattle.std.proofs.lemmas.List.{length-drop}
use Rattle.ssq_field.proofs.BigEndian.{IsBytes, IsBytes-drop}
use Rattle.ssq_field.proofs.Order.{by_eight, decided, undecided}
use Rattle.ssq_field.proofs.bytes.order.Goals as goal

pub returns-then-is_ne : goal.returns-then-is_ne
returns-then-is_ne c =
    let some = c.in-Some-Some in
    let whole = by_eight _ _ _ _ _ _ c.cmp-first.result c.loop-front.invariant.0 c.loop-front.invariant.1 (omega (arith, some.ensures.cases.2)) (omega (arith, some.ensures'.cases.2)) some.ensures.cases.0 some.ensures.cases.1 some.ensures'.cases.0 some.ensures'.cases.1 (c.cmp-first.ensures ∙ ap₂ nat_cmp c.from_be_bytes.ensures c.from_be_bytes-in-Some-Some.ensures) in
    sym (decided c.cmp-first.result _ (sym c.is_ne.ensures ∙ c.if-is_ne.true)) ∙ sym whole ∙ c.loop-front.invariant.2

pub loop-front-smaller : goal.loop-front-smaller
loop-front-smaller c =
    let some = c.in-Some-Some in
    omega (arith, some.ensures.cases.2, ap length some.ensures.cases.1, length-drop 8 c.loop-front.left.now)

pub loop-front-preserved : goal.loop-front-preserved
loop-front-preserved c =
    let some = c.in-Some-Some in
    let whole = by_eight _ _ _ _ _ _ c.cmp-first.result c.loop-front.invariant.0 c.loop-front.invariant.1 (omega (arith, some.ensures.cases.2)) (omega (arith, some.ensures'.cases.2)) some.ensures.cases.0 some.ensures.cases.1 some.ensures'.cases.0 some.ensures'.cases.1 (c.cmp-first.ensures ∙ ap₂ nat_cmp c.from_be_bytes.ensures c.from_be_bytes-in-Some-Some.ensures) in
    (subst IsBytes (sym some.ensures.cases.1) (IsBytes-drop 8 _ c.loop-front.invariant.0), subst IsBytes (sym some.ensures'.cases.1) (IsBytes-drop 8 _ c.loop-front.invariant.1), sym (undecided c.cmp-first.result _ (sym c.is_ne.ensures ∙ c.if-is_ne.false)) ∙ sym whole ∙ c.loop-front.invariant.2)
