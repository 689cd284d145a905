use Rattle.std.proofs.Common.{◌≡◌, List, sym, subst, arith, take, drop}
use Rattle.std.specs.Prelude.{OnOk}
use Rattle.std.specs.List.{AllByRecursion}
use Rattle.ssq_shape.specs.declared.bound.GroupKey.{GroupKey}
use Rattle.ssq_meaning.specs.FedRows.{FedRow}
use Rattle.ssq_meaning.specs.Group.{row_keys}
use Rattle.ssq_meaning.specs.Meaning.{Values}
use Rattle.ssq_meaning.specs.Windows.{HasWindow}
use Rattle.ssq_feed.specs.Keys.{all_of, begun_with}
use Rattle.ssq_feed.specs.Dealing.{Deals, IsLonger, member_rows}
use Rattle.ssq_feed.proofs.Members.{deals_none, deals_value, deals_part, deals_nothing, rows_of_key, goes_on, on_ok}
use Rattle.ssq_feed.proofs.dealer.Dealer.+deal_groups.Goals as goal

pub returns-in_default : goal.returns-in_default
returns-in_default t c =
    let from = c.args.from.now in
    let P : List FedRow → Type 0 = λ rows. OnOk c.deal_member.result (Deals c.args.self.now.buckets c.deal_member.new.self.buckets rows) in
    subst P (sym (rows_of_key from.origin from.place (take from.arguments c.args.cells.items) (drop from.arguments c.args.cells.items) from.row.now c.args.parts.now c.in_default.ensures.cases))
    c.deal_member.ensures

pub returns-in_default-checked_sub : goal.returns-in_default-checked_sub
returns-in_default-checked_sub t c =
    let from = c.args.from.now in
    deals_nothing from.origin from.place (take from.arguments c.args.cells.items) c.in-Some.parts.now (drop from.arguments c.args.cells.items)
    from.row.now c.args.self.now.buckets c.in-Some.part.now
    c.args.parts.now (all_of c.of-values.result) c.count.result c.in-Some.ensures.cases.0 c.of-values.ensures.all c.count.ensures c.in_default-checked_sub.ensures

pub deal_groups-requires : goal.deal_groups-requires
deal_groups-requires t c =
    let P : List GroupKey → Type 0 = AllByRecursion HasWindow in
    let all = all_of c.of-values.result in
    let longer = subst (λ (front : Values). IsLonger all c.loop-nth.nth front c.in_ok-begun.begun.items) c.as_slice.ensures.value c.in_ok-begun.ensures in
    let on = goes_on c.args.from.now.arguments all c.loop-nth.nth c.args.cells.items c.in_ok-begun.begun.items c.requires.arguments c.requires.cells c.of-values.ensures.fit longer in (
      omega (arith, c.decreases, c.in-Some.ensures.cases.1),
      (
        c.requires.span,
        (
          (subst P c.in-Some.ensures.cases.0 c.requires.left).1,
          (c.requires.read, (on.within, on.fit)),
        ),
      ),
    )

pub loop-nth-preserved : goal.loop-nth-preserved
loop-nth-preserved t c =
    let from = c.args.from.now in
    let cells = c.args.cells.items in
    let begun = c.in_ok-begun.begun.items in
    let all = all_of c.of-values.result in
    let P : Values → Values → Type 0 = λ arguments key. Deals c.loop-nth.self.buckets c.deal_groups.new.self.buckets
    (member_rows from.origin from.place arguments (begun_with key (row_keys c.in-Some.parts.now from.row.now))) in
    let longer = subst (λ (front : Values). IsLonger all c.loop-nth.nth front begun) c.as_slice.ensures.value c.in_ok-begun.ensures in
    let on = goes_on from.arguments all c.loop-nth.nth cells begun c.requires.arguments c.requires.cells c.of-values.ensures.fit longer in
    deals_value from.origin from.place (take from.arguments cells) c.in-Some.parts.now (drop from.arguments cells) from.row.now
    c.args.self.now.buckets c.loop-nth.self.buckets c.deal_groups.new.self.buckets all c.loop-nth.nth on.value
    c.loop-nth.invariant on.there
    (subst (P (take from.arguments cells)) on.key (subst (λ (arguments : Values). P arguments (drop from.arguments begun)) on.same c.in_ok-deal_groups.ensures))

pub deal_groups-requires-2 : goal.deal_groups-requires-2
deal_groups-requires-2 t c =
    let P : List GroupKey → Type 0 = AllByRecursion HasWindow in
    let on = goes_on c.args.from.now.arguments (all_of c.of-values.result) c.in-Some-checked_sub.last c.args.cells.items c.in_ok-cells.cells.items c.requires.arguments c.requires.cells c.of-values.ensures.fit c.in_ok-cells.ensures in (
      omega (arith, c.decreases, c.in-Some.ensures.cases.1),
      (
        c.requires.span,
        (
          (subst P c.in-Some.ensures.cases.0 c.requires.left).1,
          (c.requires.read, (on.within, on.fit)),
        ),
      ),
    )

pub returns : goal.returns
returns t c =
    let from = c.args.from.now in
    let cells = c.args.cells.items in
    let longer = c.in_ok-cells.cells.items in
    let P : Values → Values → Type 0 = λ arguments key. Deals c.loop-nth.self.buckets c.deal_groups-2.new.self.buckets
    (member_rows from.origin from.place arguments (begun_with key (row_keys c.in-Some.parts.now from.row.now))) in
    let all = all_of c.of-values.result in
    let last = c.in-Some-checked_sub.last in
    let at_last : c.loop-nth.nth ≡ last = omega (arith, c.loop-nth-test.false, c.loop-nth.auto.nth-end) in
    let on = goes_on from.arguments all last cells longer c.requires.arguments c.requires.cells c.of-values.ensures.fit c.in_ok-cells.ensures in
    on_ok c.deal_groups-2.result c.deal_groups-2.ensures (λ deals.
    deals_part from.origin from.place (take from.arguments cells) c.in-Some.parts.now (drop from.arguments cells) from.row.now
    c.args.self.now.buckets c.deal_groups-2.new.self.buckets c.in-Some.part.now c.args.parts.now all last c.count.result c.in-Some.ensures.cases.0 c.of-values.ensures.all
    c.count.ensures c.in-Some-checked_sub.ensures.0 c.in-Some-checked_sub.ensures.1
    (deals_value from.origin from.place (take from.arguments cells) c.in-Some.parts.now (drop from.arguments cells) from.row.now
    c.args.self.now.buckets c.loop-nth.self.buckets c.deal_groups-2.new.self.buckets all last on.value
    (rw (sym at_last) c.loop-nth.invariant) on.there
    (subst (P (take from.arguments cells)) on.key (subst (λ (arguments : Values). P arguments (drop from.arguments longer)) on.same deals))))

pub deal_member-requires-clause-span : goal.deal_member-requires-clause-span
deal_member-requires-clause-span t c = c.requires.span

pub deal_member-requires-clause-arguments : goal.deal_member-requires-clause-arguments
deal_member-requires-clause-arguments t c = c.requires.arguments

pub deal_member-requires-clause-cells : goal.deal_member-requires-clause-cells
deal_member-requires-clause-cells t c = c.requires.cells

pub of-values-requires-clause-window : goal.of-values-requires-clause-window
of-values-requires-clause-window t c =
    let P : List GroupKey → Type 0 = AllByRecursion HasWindow in
    (subst P c.in-Some.ensures.cases.0 c.requires.left).0

pub of-values-requires-clause-read : goal.of-values-requires-clause-read
of-values-requires-clause-read t c = c.requires.read

pub loop-nth-init : goal.loop-nth-init
loop-nth-init t c = deals_none c.args.self.now.buckets

pub longer-requires : goal.longer-requires
longer-requires t c = omega (arith, c.loop-nth-test.true, c.count.ensures, c.in-Some-checked_sub.ensures.0, c.in-Some-checked_sub.ensures.1)

pub pushed-requires : goal.pushed-requires
pushed-requires t c = omega (arith, c.count.ensures, c.in-Some-checked_sub.ensures.0, c.in-Some-checked_sub.ensures.1)
