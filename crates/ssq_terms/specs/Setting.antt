-- The setting of a query, with the partitions that it has, over logs of which so many lines were found.
use Rattle.std.specs.Prelude.{◌≡◌, ◌<◌, ◌≤◌, ◌^◌, ℕ, List, [], ◌∷◌, length, Option, None, All}
use Rattle.std.specs.Option.{ForSome}
use Rattle.std.specs.Str.{IsUtf8}
use Rattle.ssq_shape.specs.declared.bound.Bound.{Bound}
use Rattle.ssq_shape.specs.declared.bound.Grouping.{Grouping}
use Rattle.ssq_shape.specs.declared.bound.Stream.{Stream}
use Rattle.ssq_shape.specs.declared.bound.Shape.{Shape}
use Rattle.ssq_shape.specs.declared.bound.Shape.TheVariants.{Plain, Group, Dedup, Join}
use Rattle.ssq_shape.specs.Windows.{HasWindows}
use Rattle.ssq_meaning.specs.JoinLaws.{IsBounded}
use Rattle.ssq_meaning.specs.Meaning.{Line}
use Rattle.ssq_meaning.specs.Epochs.{joined}
use Rattle.ssq_water.specs.Water.{HasDelays}
use Rattle.ssq_logs.specs.Asked.{most_lines}
use Rattle.ssq_open.specs.declared.wanted.Lens.{Lens}
use Rattle.ssq_open.specs.Lens.{CanBeAsked, counts_of}
use Rattle.ssq_course.specs.Setting.{Setting}
use Rattle.ssq_course.specs.States.{HasFewColumns}

-- how many lines were found of each part of the job, in order
abbrev pub found_lines : Lens → List ℕ
found_lines lens = joined lens.streams

-- Of each part, in order, as many lines are found as it will come to hold, or fewer, and no more than are taken of a log.
abbrev pub AreFound : List ℕ → List (List Line) → Type 0
AreFound [] [] = Unit {0}
AreFound [] (lines ∷ rest) = ⊥
AreFound (found ∷ more) [] = ⊥
AreFound (found ∷ more) (lines ∷ rest) = (found ≤ length lines) × (found ≤ most_lines) × AreFound more rest

-- a stream without a delay has no event column: the language declares both together
abbrev pub HasEventIfDelayed : Stream → Type 0
HasEventIfDelayed stream = stream.delay ≡ None → stream.schema.event ≡ None

-- groups within the limits of the language: GROUP BY has at most 64 parts, and there are at most 64 aggregates
pub record IsLimited (grouping : Grouping) : Type 0 where
  pub keys : length grouping.keys ≤ 64
  pub aggregates : length grouping.aggregates ≤ 64

-- The shapes of query that run: those that keep nothing, groups within the limits, rows without repeats by at most 64 columns, and joins with
-- at most 64 key equalities and, if there is one, a bound around the left row's time.
abbrev pub Runs : Shape → Type 0
Runs Plain = Unit {0}
Runs (Group grouping) = IsLimited grouping
Runs (Dedup columns) = length columns ≤ 64
Runs (Join joining) = (length joining.keys ≤ 64) × IsBounded joining

-- A query that can be run: it reads one stream or two, its text is UTF-8 of a length of 64 bits, its delays and windows are ones that the
-- language has, and a stream has at most 64 columns, and an event column only with a delay.
pub record CanRun (bound : Bound) : Type 0 where
  pub shape : Runs bound.shape
  pub few_streams : length bound.streams ≤ 2
  pub utf8 : IsUtf8 bound.text
  pub few : length bound.text < 2 ^ 64
  pub delays : HasDelays bound
  pub windows : HasWindows bound
  pub columns : All HasFewColumns bound.streams
  pub events : All HasEventIfDelayed bound.streams

-- The setting is of this query, with 1 to 64 partitions, which are those that are asked for, where that is asked; and of the parts of
-- its streams, with one log for each.
pub record IsSettingOf (s : Setting) (bound : Bound) (partitions : Option ℕ) (lens : Lens) : Type 0 where
  pub query : s.job.bound ≡ bound
  pub runs : CanRun bound
  pub asked : CanBeAsked bound partitions lens
  pub some_partitions : 1 ≤ s.job.partitions
  pub few_partitions : s.job.partitions ≤ 64
  pub as_asked : ForSome partitions (λ count. s.job.partitions ≡ count)
  pub parts : s.job.parts ≡ counts_of lens.streams
  pub counted : length s.lines ≡ length (found_lines lens)
