use Rattle.ssq_gen.proofs.Turns.{line_made}
use Rattle.ssq_gen.proofs.lines.line_with.Goals as goal

pub returns : goal.returns
returns c =
    line_made c.args.x c.args.at _ c.put_row.new.out.items _ _ c.in_ok-line.ensures.items c.requires.heads c.in_ok-row.ensures.row c.in_ok-put_row.ensures.text
