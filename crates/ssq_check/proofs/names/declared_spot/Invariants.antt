use Rattle.std.proofs.Common.{◌≡◌, drop}
use Rattle.ssq_check.proofs.Behind.{first_behind}
use Rattle.ssq_check.proofs.Declared.{is_named}
use Rattle.ssq_check.proofs.names.declared_spot.Given as goal

abbrev pub invariant-loop-at : goal.invariant-loop-at
invariant-loop-at l = first_behind (is_named l.name) l.at (drop l.at l.decls) ≡ first_behind (is_named l.name) 0 l.decls
