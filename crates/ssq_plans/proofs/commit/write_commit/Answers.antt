-- The pieces are put one after the other.
use Rattle.std.proofs.Common.{◌∙◌}
use Rattle.ssq_plans.specs.Records.{commit_text}
use Rattle.ssq_plans.proofs.Spelled.{commit_written}
use Rattle.ssq_plans.proofs.commit.write_commit.Goals as goal

pub returns : goal.returns
returns c =
    let lines = c.put_lines.ensures _ (c.put_number_line.ensures _ c.new-out.ensures) in
    let commit = c.args.commit.now in
    c.finish.ensures (commit_text commit) (λ whole. c.put.ensures _ lines whole ∙ commit_written commit _ c.as_slice.ensures)
