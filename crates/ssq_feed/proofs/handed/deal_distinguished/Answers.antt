use Rattle.std.proofs.Common.{◌≡◌, ◌∙◌, Ok, Some, ap, rules}
use Rattle.ssq_shape.specs.Plain.{shown}
use Rattle.ssq_meaning.specs.Placed.{placed_time}
use Rattle.ssq_feed.proofs.Members.{repeat_dealt}
use Rattle.ssq_feed.proofs.handed.deal_distinguished.Goals as goal

pub placed_time-time-requires-clause-span : goal.placed_time-time-requires-clause-span
placed_time-time-requires-clause-span c = c.requires.found.span

pub returns-in_ok-deal_values : goal.returns-in_ok-deal_values
returns-in_ok-deal_values c =
    let query = c.args.query.now in
    let values = c.in-Some.values in
    let shows : shown query.bound.now c.args.row.now ≡ Ok (Some values) = search rules in
    repeat_dealt c.args.origin query c.args.columns.now c.args.row.now c.in_ok-key.key values c.placed_time-time.result c.args.dealer.now.buckets c.deal_values.new.self.buckets
    c.requires shows c.in_ok-key.ensures.key (c.placed_time-time.ensures ∙ ap (placed_time query.place) c.as_slice.ensures) c.in_ok-deal_values.ensures
