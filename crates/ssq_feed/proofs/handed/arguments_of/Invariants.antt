use Rattle.std.proofs.Common.{◌≡◌, ◌++◌, drop, Ok}
use Rattle.std.specs.Prelude.{All}
use Rattle.ssq_shape.specs.Evaluation.{and_then}
use Rattle.ssq_meaning.specs.Fit.{IsFit}
use Rattle.ssq_meaning.specs.Group.{arguments_of}
use Rattle.ssq_feed.proofs.handed.arguments_of.Given as goal

abbrev pub invariant-loop-aggregate : goal.invariant-loop-aggregate
invariant-loop-aggregate l = record {
  values : and_then (arguments_of (drop l.aggregate-index l.aggregates) l.row) (λ rest. Ok (l.values.items ++ rest)) ≡ arguments_of l.aggregates l.row;
  fit : All IsFit l.values.items;
}
