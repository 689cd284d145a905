use Rattle.std.proofs.Common.{[], ◌∷◌, ◌++◌, List, length}
use Rattle.ssq_meaning.specs.Meaning.{Values}
use Rattle.ssq_sink.specs.Passing.{IsKept}
use Rattle.ssq_sink.proofs.Rereading.{AreReadSo}
use Rattle.ssq_sink.proofs.kept.Kept.take.Given as goal

-- the rows so far, which were taken, and that what is left is the lines that are left
abbrev pub invariant-loop-rest : goal.invariant-loop-rest
invariant-loop-rest l =
    (read : AreReadSo l.columns.heads l.columns.kinds.items l.bytes l.rest)
    × ((epochs : List (List Values)) → IsKept l.bound epochs l.fn.self → IsKept l.bound (epochs ++ read.own ∷ []) l.self)

abbrev pub decreases-loop-rest : goal.decreases-loop-rest
decreases-loop-rest l = length l.rest
