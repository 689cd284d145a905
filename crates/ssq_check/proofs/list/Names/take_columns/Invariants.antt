use Rattle.std.proofs.Common.{take}
use Rattle.std.specs.List.{flat_map}
use Rattle.ssq_check.proofs.Lists.{AreNoted}
use Rattle.ssq_check.specs.Clauses.{ident_name, ident_place, group_columns}
use Rattle.ssq_check.proofs.list.Names.take_columns.Given as goal

abbrev pub invariant-loop-item : goal.invariant-loop-item
invariant-loop-item l = AreNoted ident_name ident_place (flat_map group_columns (take l.item-index l.items)) l.self.double l.self.seen.keys
