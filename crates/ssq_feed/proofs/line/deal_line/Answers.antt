use Rattle.std.proofs.Common.{rules}
use Rattle.ssq_feed.proofs.Feeding.{line_dealt}
use Rattle.ssq_feed.proofs.line.deal_line.Goals as goal

pub returns-in-Ok-clause-dealt : goal.returns-in-Ok-clause-dealt
returns-in-Ok-clause-dealt c =
    line_dealt c.args.query.now.bound.now c.args.origin c.args.line.now c.args.query.now.schema.now c.in-Ok-Some.row _ _ _ c.requires.layout (search rules) (search rules) (search rules) c.in-Ok.ensures
