use Rattle.std.proofs.Common.{drop, []}
use Rattle.std.specs.List.{flat_map}
use Rattle.ssq_check.specs.declared.tally.Tally.{Tally}
use Rattle.ssq_check.specs.Clauses.{group_windows}
use Rattle.ssq_check.specs.Counted.{tally_of, Counts}
use Rattle.ssq_check.proofs.clause.windows_in.Given as goal

abbrev pub invariant-loop-item : goal.invariant-loop-item
invariant-loop-item l = (last : Tally) → Counts l.tally (flat_map group_windows (drop l.item-index l.items)) last → Counts (tally_of 1 []) (flat_map group_windows l.items) last
