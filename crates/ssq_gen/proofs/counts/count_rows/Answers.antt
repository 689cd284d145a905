use Rattle.std.proofs.Common.{length, map, subst, sym, ap, ◌∙◌}
use Rattle.ssq_json.specs.Stored.{AreRows}
use Rattle.ssq_gen.proofs.counts.count_rows.Goals as goal

pub count_lines-requires : goal.count_lines-requires
count_lines-requires c = c.in_ok-columns.ensures.same ∙ ap length (sym c.as_slice.ensures.value)

pub returns-clause-each : goal.returns-clause-each
returns-clause-each c = λ rows are.
    c.count_lines.ensures.each (map (λ output. output.name) c.args.outputs.now) c.in_ok-columns.ensures.heads rows
    (subst (λ kinds. AreRows (map (λ output. output.name) c.args.outputs.now) kinds c.args.table.now rows) (sym (c.as_slice.ensures.value ∙ c.in_ok-columns.ensures.kinds)) are)

pub returns-clause-rows : goal.returns-clause-rows
returns-clause-rows c = rw (sym c.in_ok-columns.ensures.kinds, sym c.as_slice.ensures.value) (c.count_lines.ensures.rows (map (λ output. output.name) c.args.outputs.now) c.in_ok-columns.ensures.heads)

pub returns-clause-cause : goal.returns-clause-cause
returns-clause-cause c = rw (sym c.in_ok-columns.ensures.kinds, sym c.as_slice.ensures.value) (c.count_lines.ensures.cause (map (λ output. output.name) c.args.outputs.now) c.in_ok-columns.ensures.heads)
