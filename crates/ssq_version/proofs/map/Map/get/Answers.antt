use Rattle.std.proofs.Common.{◌∙◌, ap, sym}
use Rattle.ssq_version.specs.State.{value_at}
use Rattle.ssq_version.specs.Map.{entries_in}
use Rattle.ssq_version.proofs.Tables.{table_at}
use Rattle.ssq_version.proofs.map.Map.get.Goals as goal

pub returns-in-Hashed : goal.returns-in-Hashed
returns-in-Hashed c =
    c.get-in-Hashed.ensures.value ∙ table_at c.in-Hashed.table.entries c.args.key.now
    ∙ sym (ap (λ map. value_at (entries_in map) c.args.key.now) c.in-Hashed.is)
