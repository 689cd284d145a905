use Rattle.std.proofs.Common.{◌≡◌, ◌-◌}
use Rattle.ssq_parse.specs.Queries.{list_at, list_from}
use Rattle.ssq_parse.proofs.query.list.Given as goal

abbrev pub invariant-loop-turn : goal.invariant-loop-turn
invariant-loop-turn g l = list_at g.T.Part.reading l.fn.reader ≡ list_from g.T.Part.reading (l._turn-end - l._turn) l.found l.reader
