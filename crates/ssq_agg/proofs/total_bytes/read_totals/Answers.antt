use Rattle.std.proofs.Common.{◌≡◌, ◌++◌, ◌+◌, ◌∙◌, Some, arith, sym, ap, subst, drop, append-nil}
use Rattle.std.proofs.lemmas.List.{drop_all}
use Rattle.ssq_keys.proofs.ReadLemmas.{some_has, some_and_has, none_has}
use Rattle.ssq_meaning.specs.Totals.{total_bytes, totals_bytes}
use Rattle.ssq_agg.specs.Readable.{IsTotalOf, AreTotalsOf}
use Rattle.ssq_agg.proofs.Totalling.{all_read, AreFront, EachIsLeft, step_is, front_begins, front_on, front_all, bytes_on, left_begins, left_on, no_items, nothing_in_front, some_item}
use Rattle.ssq_agg.proofs.total_bytes.read_totals.Goals as goal

pub loop-aggregate-init : goal.loop-aggregate-init
loop-aggregate-init c =
    let none = c.in_ok-totals.ensures.items in (
      ap (λ l. totals_bytes l ++ c.args.bytes.now) none,
      front_begins c.args.aggregates.now c.in_ok-totals.totals.items none,
      left_begins c.args.aggregates.now c.args.bytes.now c.in_ok-totals.totals.items none,
    )

pub loop-aggregate-preserved : goal.loop-aggregate-preserved
loop-aggregate-preserved c =
    let all = c.args.aggregates.now in
    let aggregate = c.aggregate-item.result in
    let step = step_is all c.loop-aggregate.aggregate-index aggregate (omega (arith, c.loop-aggregate-test.true)) c.aggregate-item.is in
    let push = c.in_ok-push.ensures.items in
    let front = some_has (λ parts. c.loop-aggregate.rest.now ≡ total_bytes parts.0 ++ parts.1.now) _ _ c.in-Some.is c.in_ok-total.ensures.found in
    let is_of = some_has (λ parts. IsTotalOf aggregate.function parts.0) _ _ c.in-Some.is c.in_ok-total.ensures.readable in (
      bytes_on c.loop-aggregate.totals.items c.push.new.self.items c.in-Some.total c.args.bytes.now c.loop-aggregate.rest.now c.in-Some.behind.now push front c.loop-aggregate.invariant.0,
      front_on all (drop (c.loop-aggregate.aggregate-index + 1) all) aggregate c.loop-aggregate.totals.items c.push.new.self.items c.in-Some.total push is_of
          (subst (AreFront all c.loop-aggregate.totals.items) step c.loop-aggregate.invariant.1),
      left_on all c.args.bytes.now (drop (c.loop-aggregate.aggregate-index + 1) all) aggregate c.loop-aggregate.totals.items c.push.new.self.items c.in-Some.total c.loop-aggregate.rest.now c.in-Some.behind.now push
          (λ other r fits is. some_and_has (λ parts. (parts.0 ≡ other) × (parts.1.now ≡ r)) _ _ c.in-Some.is (c.in_ok-total.ensures.each other r fits is))
          (subst (λ l. EachIsLeft all c.args.bytes.now l c.loop-aggregate.totals.items c.loop-aggregate.rest.now) step c.loop-aggregate.invariant.2),
    )

pub returns-in_default-clause-each : goal.returns-in_default-clause-each
returns-in_default-clause-each c totals are is =
    let all = c.args.aggregates.now in
    let aggregate = c.aggregate-item.result in
    let step = step_is all c.loop-aggregate.aggregate-index aggregate (omega (arith, c.loop-aggregate-test.true)) c.aggregate-item.is in
    absurd (nothing_in_front all c.args.bytes.now (drop (c.loop-aggregate.aggregate-index + 1) all) aggregate c.loop-aggregate.totals.items c.loop-aggregate.rest.now
    (λ other r fits is. none_has (λ parts. (parts.0 ≡ other) × (parts.1.now ≡ r)) _ c.in_default.not-Some (c.in_ok-total.ensures.each other r fits is))
    (subst (λ l. EachIsLeft all c.args.bytes.now l c.loop-aggregate.totals.items c.loop-aggregate.rest.now) step c.loop-aggregate.invariant.2) totals are is)

pub returns-then-is_empty-clause-readable : goal.returns-then-is_empty-clause-readable
returns-then-is_empty-clause-readable c =
    let all = c.args.aggregates.now in
    let ended = drop_all c.loop-aggregate.aggregate-index all (omega (arith, c.loop-aggregate-test.false)) in
    subst (AreTotalsOf all) (sym c.from_vec.ensures) (front_all all c.loop-aggregate.totals.items (subst (AreFront all c.loop-aggregate.totals.items) ended c.loop-aggregate.invariant.1))

pub returns-then-is_empty-clause-found : goal.returns-then-is_empty-clause-found
returns-then-is_empty-clause-found c =
    let front = totals_bytes c.loop-aggregate.totals.items in
    let none = no_items c.loop-aggregate.rest.now (sym c.is_empty.ensures ∙ c.if-is_empty.true) in
    ap totals_bytes c.from_vec.ensures ∙ sym (append-nil front) ∙ ap (λ l. front ++ l) (sym none) ∙ c.loop-aggregate.invariant.0

pub returns-then-is_empty-clause-each : goal.returns-then-is_empty-clause-each
returns-then-is_empty-clause-each c totals are is =
    let same = all_read c.args.aggregates.now c.loop-aggregate.aggregate-index (omega (arith, c.loop-aggregate-test.false)) c.args.bytes.now c.loop-aggregate.totals.items c.loop-aggregate.rest.now c.loop-aggregate.invariant.2 totals are is in
    ap Some (c.from_vec.ensures ∙ sym same.0)

pub returns-else-is_empty-clause-each : goal.returns-else-is_empty-clause-each
returns-else-is_empty-clause-each c totals are is =
    let same = all_read c.args.aggregates.now c.loop-aggregate.aggregate-index (omega (arith, c.loop-aggregate-test.false)) c.args.bytes.now c.loop-aggregate.totals.items c.loop-aggregate.rest.now c.loop-aggregate.invariant.2 totals are is in
    absurd (some_item c.loop-aggregate.rest.now (sym c.is_empty.ensures ∙ c.if-is_empty.false) same.1)
