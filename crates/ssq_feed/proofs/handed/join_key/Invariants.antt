use Rattle.std.proofs.Common.{◌≡◌, ◌++◌, drop}
use Rattle.std.specs.Prelude.{All}
use Rattle.ssq_meaning.specs.Fit.{IsFit}
use Rattle.ssq_meaning.specs.Join.{join_key}
use Rattle.ssq_feed.proofs.handed.join_key.Given as goal

abbrev pub invariant-loop-pair : goal.invariant-loop-pair
invariant-loop-pair l = record {
  key : l.key.items ++ join_key (drop l.pair-index l.pairs) l.stream l.row ≡ join_key l.pairs l.stream l.row;
  fit : All IsFit l.key.items;
}
