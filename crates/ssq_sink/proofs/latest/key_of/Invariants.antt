use Rattle.std.proofs.Common.{◌≡◌, ◌++◌, length, drop}
use Rattle.ssq_meaning.specs.Table.{key_cells}
use Rattle.ssq_sink.proofs.latest.key_of.Given as goal

-- the cells so far, and those that are left
abbrev pub invariant-loop-output : goal.invariant-loop-output
invariant-loop-output l = key_cells l.outputs l.row ≡ l.cells.items ++ key_cells (drop (length l.yielded) l.outputs) (drop (length l.yielded) l.row)
