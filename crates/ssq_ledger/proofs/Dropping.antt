-- What is left of names where one went.
use Rattle.std.proofs.Common.{◌∙◌, not, List, sym}
use Rattle.std.proofs.lemmas.Bool.{and_parts, and_from, not_from_false}
use Rattle.ssq_outside.specs.declared.name.Name.{Name}
use Rattle.ssq_outside.specs.Files.{same_name}
use Rattle.ssq_upkeep.specs.Upkeep.{is_among}
use Rattle.ssq_upkeep.proofs.Lasting.{LeavesOut}
use Rattle.ssq_board.specs.Shelf.{without}
use Rattle.ssq_board.proofs.Upkeeping.{without_is}

-- One name is left out, and all others stay.
pub leaves_out : (q : Name) (names : List Name) → LeavesOut q names (without q names)
leaves_out q names = record {
  fewer = λ other is. (and_parts (is_among names other) (not (same_name other q)) (sym (without_is q other names) ∙ is)).0;
  others = λ other away is. without_is q other names ∙ and_from (is_among names other) (not (same_name other q)) is (not_from_false (same_name other q) away);
}
