use Rattle.std.proofs.Common.{◌≡◌, ◌∙◌, []}
use Rattle.std.specs.List.{flat_map}
use Rattle.ssq_check.specs.Counted.{tally_of}
use Rattle.ssq_check.specs.Shown.{item_aggregates}
use Rattle.ssq_check.proofs.shown.shown_aggregates.Goals as goal

pub returns : goal.returns
returns c =
    let items = c.args.query.now.select.items in
    let selected : c.with_items-selected.result ≡ tally_of 64 (flat_map item_aggregates items) = c.with_items-selected.ensures 64 [] c.none_of.ensures ∙ (λ i. tally_of 64 (flat_map item_aggregates (c.as_slice.ensures i))) in
    c.with_having.ensures 64 (flat_map item_aggregates items) selected
