use Rattle.std.proofs.Common.{Bool, List, take}
use Rattle.ssq_meaning.specs.FedRows.{FedRow}
use Rattle.ssq_meaning.specs.Join.{Considered}
use Rattle.ssq_step.specs.Indexing.{seen}
use Rattle.ssq_step.specs.Shown.{ArePrintable}
use Rattle.ssq_join.specs.Overs.{AreOver, TellsAlone}
use Rattle.ssq_join.specs.Telling.{Tells}
use Rattle.ssq_join.proofs.over.take_all_over.Given as goal

abbrev pub invariant-loop-key : goal.invariant-loop-key
invariant-loop-key l =
    ((met : FedRow → Bool) (over : List FedRow) (all : List Considered) → AreOver l.bound l.joining l.state met over (seen l.keys) → Tells l.fn.found all → TellsAlone l.bound l.joining met (take l.key-index over) all l.found)
    × ArePrintable l.found.rows.items
