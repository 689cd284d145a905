use Rattle.std.proofs.Common.{◌∙◌, ◌==◌, ◌≡◌, ap, arith, length, nat_eq, sym}
use Rattle.ssq_version.specs.State.{in_order}
use Rattle.ssq_version.specs.Map.{entries_in}
use Rattle.ssq_version.proofs.Tables.{order_empty, order_long}
use Rattle.ssq_version.proofs.map.Map.is_empty.Goals as goal

pub returns-in-Hashed-clause-empty : goal.returns-in-Hashed-clause-empty
returns-in-Hashed-clause-empty c =
    ap (λ n. nat_eq n 0) c.len-in-Hashed.ensures.len ∙ order_empty c.in-Hashed.table.entries ∙ sym (ap (λ map. length (entries_in map) == 0) c.in-Hashed.is)

pub returns-in-Hashed-clause-few : goal.returns-in-Hashed-clause-few
returns-in-Hashed-clause-few c =
    let same : length (entries_in c.args.self.now) ≡ length (in_order c.in-Hashed.table.entries) = ap (λ map. length (entries_in map)) c.in-Hashed.is in
    let few = order_long c.in-Hashed.table.entries in
    omega (arith, same, few, c.len-in-Hashed.ensures.len, c.len-in-Hashed.ensures.small)
