use Rattle.std.proofs.Common.{◌≡◌, List, take}
use Rattle.std.specs.HashMap.{get as found}
use Rattle.std.specs.List.{AllByRecursion}
use Rattle.ssq_value.specs.declared.value.Value.{Value}
use Rattle.ssq_meaning.specs.Group.{is_same, members}
use Rattle.ssq_agg.specs.Groups.{AreSteady, Held, touched}
use Rattle.ssq_agg.specs.Holding.{Holds}
use Rattle.ssq_agg.specs.Readable.{AreFitAt, IsKey}
use Rattle.ssq_agg.proofs.groups.touched.Given as goal

abbrev pub invariant-loop-row : goal.invariant-loop-row
invariant-loop-row l =
    ((own : Held) → Holds l.grouping l.state own → AllByRecursion (λ row. IsKey l.grouping row.key) l.rows → AreSteady l.grouping.aggregates own l.rows →
    (key : List Value) → found is_same l.groups key ≡ touched l.grouping.aggregates (own key) (members (take l.row-index l.rows) key))
    × AreFitAt (found is_same l.groups)
