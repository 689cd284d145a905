use Rattle.std.proofs.Common.{ap, ◌∙◌}
use Rattle.ssq_meaning.specs.Table.{key_cells}
use Rattle.ssq_sink.proofs.Keeping.{one_kept}
use Rattle.ssq_sink.proofs.latest.Latest.put.Goals as goal

pub returns : goal.returns
returns c = λ rows so.
    one_kept c.args.outputs.now rows c.in_ok-key.key c.args.row c.args.self.now.rows.entries c.insert.new.self.entries (c.in_ok-key.ensures ∙ ap (key_cells c.args.outputs.now) c.as_slice.ensures) c.requires
    c.in_ok-insert.ensures.entries c.in_ok-insert.ensures.was_ordered so
