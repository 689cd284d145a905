-- What a commit tells of the greatest event times.
use Rattle.std.specs.Prelude.{◌≡◌, ◌==◌, ℕ, ℤ, List, map, filter, Option}
use Rattle.ssq_shape.specs.declared.bound.Bound.{Bound}
use Rattle.ssq_meaning.specs.Times.{Delay, delays, greatest}
use Rattle.ssq_water.specs.Water.{seen_at}
use Rattle.ssq_plans.specs.declared.seen.SeenBy.{SeenBy}
use Rattle.ssq_plans.specs.declared.commit.Commit.{Commit}

-- the line of a watermarked stream: its greatest time
abbrev pub line_of : List (Option ℤ) → Delay → SeenBy
line_of times stream = record { stream = stream.0; time = seen_at times stream.0 }

-- one line for each watermarked stream, in the order of FROM
abbrev pub lines_of : Bound → List (Option ℤ) → List SeenBy
lines_of query times = map (line_of times) (delays query)

-- the commit of an epoch, by the greatest times over all epochs up to and with this one
abbrev pub commit_at : Bound → ℕ → List (Option ℤ) → Commit
commit_at query epoch times = record { epoch = epoch; seen = lines_of query times }

-- the greatest time that lines tell of a stream; none where none tells one
abbrev pub told : List SeenBy → ℕ → Option ℤ
told lines stream = greatest (map (λ line. line.time) (filter (λ line. line.stream == stream) lines))

-- the lines are one for each watermarked stream, in the order of FROM
abbrev pub AreOwn : Bound → List SeenBy → Type 0
AreOwn query lines = map (λ line. line.stream) lines ≡ map (λ stream. stream.0) (delays query)
