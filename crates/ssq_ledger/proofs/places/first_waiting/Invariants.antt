use Rattle.std.proofs.Common.{◌≡◌, ◌<◌, false}
use mathlib.Core.Option.{some}
use lib.ListN.{get_elem?}
use Rattle.ssq_board.specs.Core.{is_waiting}
use Rattle.ssq_ledger.proofs.places.first_waiting.Given as goal

abbrev pub invariant-loop-number : goal.invariant-loop-number
invariant-loop-number l = (t : _) (place : _) → t < l.number → get_elem? l.places t ≡ some place → is_waiting place ≡ false
