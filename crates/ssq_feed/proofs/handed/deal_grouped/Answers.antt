use Rattle.std.proofs.Common.{◌≡◌, List, Ok, length, rules, sym, subst, true}
use Rattle.std.specs.List.{AllByRecursion}
use Rattle.ssq_shape.specs.declared.bound.GroupKey.{GroupKey}
use Rattle.ssq_shape.specs.Plain.{passes}
use Rattle.ssq_meaning.specs.Group.{arguments_of}
use Rattle.ssq_meaning.specs.Windows.{HasWindow}
use Rattle.ssq_feed.proofs.Members.{groups_dealt, windows_of}
use Rattle.ssq_feed.proofs.handed.deal_grouped.Goals as goal

pub returns : goal.returns
returns c =
    let grouping = c.args.grouping.now in
    let arguments = c.in_ok-arguments.arguments.items in
    let passing : passes c.args.query.now.bound.now.filter c.args.row.now ≡ Ok true = search rules in
    let are : arguments_of grouping.aggregates c.args.row.now ≡ Ok arguments = search rules in
    let count : c.len-count.result ≡ length arguments = search rules in
    groups_dealt c.args.origin c.args.query.now grouping c.args.row.now arguments c.len-count.result c.as_slice-parts.result.now c.args.dealer.now.buckets c.deal_groups.new.self.buckets
    c.requires passing are count c.as_slice-parts.ensures c.in_ok-deal_groups.ensures

pub deal_groups-requires-clause-span : goal.deal_groups-requires-clause-span
deal_groups-requires-clause-span c = c.requires.found.span

pub deal_groups-requires-clause-left : goal.deal_groups-requires-clause-left
deal_groups-requires-clause-left c =
    let P : List GroupKey → Type 0 = AllByRecursion HasWindow in
    subst P (sym c.as_slice-parts.ensures) (windows_of c.args.origin.stream c.args.query.now c.args.grouping.now c.requires.found c.requires.shape).each
