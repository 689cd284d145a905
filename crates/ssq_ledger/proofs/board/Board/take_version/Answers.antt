use Rattle.std.proofs.Common.{◌≡◌, ◌&&◌, Bool, ap, ◌∙◌}
use Rattle.ssq_board.specs.Core.{Core, is_stopped}
use Rattle.ssq_ledger.proofs.Boards.{with_settled}
use Rattle.ssq_ledger.proofs.board.Board.take_version.Goals as goal

pub returns-clause-now : goal.returns-clause-now
returns-clause-now c = λ scope.
    let came = c.self-2.view_is ∙ c.report-stop.ensures.now scope in
    let settled : c.both-settled.result ≡ (is_stopped c.args.self.now.front.stop && c.args.self.now.front.settled) =
    c.both-settled.ensures ∙ ap (λ (b : Bool). b && c.self.inside.front.settled) c.is_stopped.ensures ∙ ap (λ (x : Core). is_stopped x.front.stop && x.front.settled) c.self.view_is in
    (λ i. with_settled (came i) (settled i))
