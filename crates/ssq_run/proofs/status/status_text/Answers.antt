-- The pieces are put one after the other.
use Rattle.std.proofs.Common.{◌∙◌, ap}
use Rattle.ssq_run.specs.Lines.{last_watermark, status_text}
use Rattle.ssq_run.proofs.StatusText.{status_written}
use Rattle.ssq_run.proofs.status.status_text.Goals as goal

pub returns : goal.returns
returns c =
    let found = c.args.found.now in
    let numbers = c.put_number_line-3.ensures _ (c.put_number_line-2.ensures _ (c.put_number_line.ensures _ c.new-text.ensures)) in
    let pieces = c.in_ok-put_planned.ensures _ (c.put_time_line.ensures _ numbers) in
    c.into_vec.ensures (status_text found) (λ whole. pieces whole ∙ status_written found _ _ c.len.ensures (c.last_watermark.ensures.is ∙ ap last_watermark c.as_slice.ensures))
