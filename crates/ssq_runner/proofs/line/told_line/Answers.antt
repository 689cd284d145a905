-- The pieces are put one after the other.
use Rattle.std.proofs.Common.{◌∙◌}
use Rattle.ssq_runner.specs.Told.{told_line}
use Rattle.ssq_runner.proofs.Written.{told_written}
use Rattle.ssq_runner.proofs.line.told_line.Goals as goal

pub returns : goal.returns
returns c =
    let pieces = c.put_number_line.ensures _ (c.put_time.ensures _ (c.put_number-2.ensures _ (c.put_number.ensures _ c.new-line.ensures))) in
    c.into_vec.ensures (told_line c.args.told) (λ whole. pieces whole ∙ told_written c.args.told)
