use Rattle.std.proofs.Common.{◌≡◌, ◌++◌, sym, subst, arith, length}
use Rattle.std.specs.Prelude.{IfSome, IsSomeAnd}
use Rattle.std.proofs.lemmas.List.{length_push}
use Rattle.std.proofs.lemmas.Slice.Zip.{zip_turn, zip_end}
use Rattle.ssq_json.specs.RowText.{value_text}
use Rattle.ssq_json.specs.Stored.{IsStoredIn}
use Rattle.ssq_json.proofs.Lists.{drop_next}
use Rattle.ssq_json.proofs.Restoring.{AreTakenSo, none_taken, one_taken, none_more, all_taken}
use Rattle.ssq_json.proofs.stored.take_members.Goals as goal

pub loop-head-init : goal.loop-head-init
loop-head-init c =
    subst (λ values. AreTakenSo c.args.heads.now c.args.kinds.now c.args.text.now 0 values c.args.text.now) (sym c.in_ok-values.ensures.items) (none_taken c.args.heads.now c.args.kinds.now c.args.text.now)

pub loop-head-preserved : goal.loop-head-preserved
loop-head-preserved c =
    let turn = zip_turn c.args.heads.now c.args.kinds.now c.loop-head.yielded c.into_iter-head-iterator.result c.loop-head.head-iterator c.next.new.self c.next.result (cc) (cc) c.loop-head.yielded_by (c.in-Some.head, c.in-Some.kind) c.in-Some.is c.next.ensures.steps in
    let n = length c.loop-head.yielded in
    let left = c.loop-head.rest.now in
    let head = c.in-Some.head.now in
    let found = subst (λ o. IfSome o (λ r. (left ≡ head ++ (value_text r.0 ++ r.1.now)) × IsStoredIn c.in-Some.kind.now r.0)) c.in-Some-2.is c.in_ok-value.ensures.found in
    rw length_push (
    one_taken c.args.heads.now c.args.kinds.now c.args.text.now n c.loop-head.values.items c.push.new.self.items left c.in-Some-2.after.now head c.in-Some.kind.now c.in-Some-2.value
    (drop_next c.args.heads.now n head turn.0 (turn.2 _)) (drop_next c.args.kinds.now n c.in-Some.kind.now turn.1 (turn.3 _)) c.in_ok-push-in-Some-2.ensures.items found.0 found.1
    (λ one rest stored quiet is. subst (λ o. IsSomeAnd o (λ r. (r.0 ≡ one) × (r.1.now ≡ rest))) c.in-Some-2.is (c.in_ok-value.ensures.each one rest stored quiet is))
    c.loop-head.invariant
    )

pub returns-in-None-2-clause-each : goal.returns-in-None-2-clause-each
returns-in-None-2-clause-each c = λ names of row rest are is.
    let turn = zip_turn c.args.heads.now c.args.kinds.now c.loop-head.yielded c.into_iter-head-iterator.result c.loop-head.head-iterator c.next.new.self c.next.result (cc) (cc) c.loop-head.yielded_by (c.in-Some.head, c.in-Some.kind) c.in-Some.is c.next.ensures.steps in
    let n = length c.loop-head.yielded in
    let head = c.in-Some.head.now in
    none_more c.args.heads.now names c.args.kinds.now c.args.text.now n c.loop-head.values.items c.loop-head.rest.now head c.in-Some.kind.now of
    (drop_next c.args.heads.now n head turn.0 (turn.2 _)) (drop_next c.args.kinds.now n c.in-Some.kind.now turn.1 (turn.3 _))
    (λ one left stored quiet here. subst (λ o. IsSomeAnd o (λ r. (r.0 ≡ one) × (r.1.now ≡ left))) c.in-None-2.is (c.in_ok-value.ensures.each one left stored quiet here))
    c.loop-head.invariant row rest are is

pub returns-clause-found : goal.returns-clause-found
returns-clause-found c =
    let end = zip_end c.args.heads.now c.args.kinds.now c.loop-head.yielded c.into_iter-head-iterator.result c.loop-head.head-iterator c.next.new.self c.next.result (cc) (cc) c.loop-head.yielded_by c.in-None.is c.next.ensures.steps in
    let all = all_taken c.args.heads.now c.args.kinds.now c.args.text.now (length c.loop-head.yielded) c.loop-head.values.items c.loop-head.rest.now (omega (arith, end, c.requires)) (omega (arith, end, c.requires)) c.loop-head.invariant in
    (all.0, all.1)

pub returns-clause-each : goal.returns-clause-each
returns-clause-each c =
    let end = zip_end c.args.heads.now c.args.kinds.now c.loop-head.yielded c.into_iter-head-iterator.result c.loop-head.head-iterator c.next.new.self c.next.result (cc) (cc) c.loop-head.yielded_by c.in-None.is c.next.ensures.steps in
    (all_taken c.args.heads.now c.args.kinds.now c.args.text.now (length c.loop-head.yielded) c.loop-head.values.items c.loop-head.rest.now (omega (arith, end, c.requires)) (omega (arith, end, c.requires)) c.loop-head.invariant).2
