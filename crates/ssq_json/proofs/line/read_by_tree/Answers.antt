use Rattle.std.proofs.Common.{ap, ◌∙◌, rules}
use Rattle.ssq_json.specs.Line.{values_in}
use Rattle.ssq_json.proofs.Reading.{json_of-utf8, json_of-none}
use Rattle.ssq_json.proofs.line.read_by_tree.Goals as goal

pub returns-in-Ok-clause-ok : goal.returns-in-Ok-clause-ok
returns-in-Ok-clause-ok c = rw (json_of-utf8 _ c.in-Ok.ensures.ok.0 ∙ c.in-Ok.ensures.ok.1) c.read_columns.ensures.ok

pub returns-in-Ok-clause-err : goal.returns-in-Ok-clause-err
returns-in-Ok-clause-err c = rw (json_of-utf8 _ c.in-Ok.ensures.ok.0 ∙ c.in-Ok.ensures.ok.1) c.read_columns.ensures.err

pub returns-else-is_memory-clause-err : goal.returns-else-is_memory-clause-err
returns-else-is_memory-clause-err c =
    λ _. ap (values_in c.args.columns.now) (json_of-none _ (c.in-Err.ensures.err (λ memory. let says = c.is_memory.ensures.1 memory in search rules)))
