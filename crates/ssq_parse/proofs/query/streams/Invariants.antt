use Rattle.std.proofs.Common.{◌≡◌, ◌-◌}
use Rattle.ssq_parse.specs.Queries.{streams_at, streams_from}
use Rattle.ssq_parse.proofs.query.streams.Given as goal

abbrev pub invariant-loop-turn : goal.invariant-loop-turn
invariant-loop-turn l = streams_at l.fn.reader ≡ streams_from (l._turn-end - l._turn) l.found l.reader
