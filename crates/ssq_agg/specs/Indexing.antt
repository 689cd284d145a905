-- The keys of groups by their times.
use Rattle.std.specs.Prelude.{List, length}
use Rattle.ssq_version.specs.State.{State}
use Rattle.ssq_shape.specs.declared.bound.Bound.{Bound}
use Rattle.ssq_shape.specs.declared.bound.Grouping.{Grouping}
use Rattle.ssq_meaning.specs.Group.{closing_time}
use Rattle.ssq_step.specs.Indexing as index
use Rattle.ssq_step.specs.Indexing.{Timed}

-- Of the keys that can be read back those that the state has stand under their times, where they have one.
abbrev pub Indexes : Bound → Grouping → State → List Timed → Type 0
Indexes query grouping state entries = index.Indexes (length grouping.keys) (closing_time query grouping) state entries
