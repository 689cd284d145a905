use Rattle.std.proofs.Common.{◌≡◌, ◌++◌, drop, map}
use Rattle.ssq_check.specs.Names.{column_of}
use Rattle.ssq_check.proofs.names.list_of.Given as goal

abbrev pub invariant-loop-decl : goal.invariant-loop-decl
invariant-loop-decl l = l.columns ++ map column_of (drop l.decl-index l.decls) ≡ map column_of l.decls
