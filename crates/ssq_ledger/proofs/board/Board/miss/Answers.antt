use Rattle.ssq_board.specs.declared.front.Place.TheVariants as place
use Rattle.ssq_board.specs.Core.{tasks_of}
use Rattle.ssq_board.proofs.Lists.{at_length}
use Rattle.ssq_ledger.proofs.board.Board.miss.Goals as goal

pub put-requires : goal.put-requires
put-requires c = at_length (tasks_of c.args.id.kind c.args.self.now) c.args.id.number place.Away c.requires
