-- The pieces are put one after the other.
use Rattle.std.proofs.Common.{codes, decimal, ◌∙◌}
use Rattle.ssq_plans.specs.Records.{time_or_none}
use Rattle.ssq_plans.proofs.Listing.{line_is_stamp}
use Rattle.ssq_plans.proofs.Spelled.{two_put}
use Rattle.ssq_plans.proofs.seen_line.SeenByLine.put.Goals as goal

pub put_time_line-requires : goal.put_time_line-requires
put_time_line-requires c = line_is_stamp c.args.self.now.time c.requires

pub returns : goal.returns
returns c held is whole =
    let seen = c.args.self.now in
    c.put_time_line.ensures _ (c.put_number.ensures held is) whole
    ∙ two_put held (codes "seen ") (decimal seen.stream) (codes " ") (time_or_none seen.time) (codes "\n")
