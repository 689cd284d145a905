-- The pieces are put one after the other.
use Rattle.std.proofs.Common.{◌∙◌}
use Rattle.ssq_plans.specs.Records.{meta_text}
use Rattle.ssq_plans.proofs.Spelled.{meta_written}
use Rattle.ssq_plans.proofs.meta.write_meta.Goals as goal

pub put_lines-requires : goal.put_lines-requires
put_lines-requires c = λ k d h. tt

pub returns : goal.returns
returns c =
    let meta = c.args.meta.now in
    let lines = c.put_lines.ensures _ (c.put_number_line.ensures _ c.new-out.ensures) in
    let query = c.put.ensures _ (c.put_number_line-2.ensures _ lines) in
    c.finish.ensures (meta_text meta) (λ whole. c.put-2.ensures _ query whole ∙ meta_written meta _ _ _ c.as_slice.ensures c.len.ensures c.as_bytes.ensures.bytes)
