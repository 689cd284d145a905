use Rattle.std.proofs.Common.{◌≡◌, ◌++◌, drop}
use Rattle.std.specs.Prelude.{All}
use Rattle.ssq_meaning.specs.Dedup.{key_in}
use Rattle.ssq_meaning.specs.Fit.{IsFit}
use Rattle.ssq_feed.proofs.handed.key_in.Given as goal

abbrev pub invariant-loop-column : goal.invariant-loop-column
invariant-loop-column l = record {
  key : l.key.items ++ key_in (drop l.column-index l.columns) l.row ≡ key_in l.columns l.row;
  fit : All IsFit l.key.items;
}
