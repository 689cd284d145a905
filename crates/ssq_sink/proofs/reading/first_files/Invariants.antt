use Rattle.std.proofs.Common.{◌≡◌, ◌≤◌, List, length}
use Rattle.ssq_outside.specs.History.{files_now}
use Rattle.ssq_meaning.specs.Meaning.{Values}
use Rattle.ssq_sink.specs.Passing.{IsKept}
use Rattle.ssq_sink.specs.Table.{AreFirst}
use Rattle.ssq_sink.proofs.reading.first_files.Given as goal

-- the disk is as it was, and what is kept is of the rows of so many files: where the disk tells, of the first ones
abbrev pub invariant-loop-epoch : goal.invariant-loop-epoch
invariant-loop-epoch g l =
    (g.D.Disk.tells → g.D.Disk.history l.disk ≡ g.D.Disk.history l.initial.disk)
    × (g.D.Disk.faults l.initial.disk ≤ g.D.Disk.faults l.disk)
    × ((epochs : List (List Values)) × (length epochs ≡ l.epoch) × IsKept l.bound epochs l.kept × (g.D.Disk.tells → AreFirst l.bound (files_now (g.D.Disk.history l.initial.disk)) epochs))
