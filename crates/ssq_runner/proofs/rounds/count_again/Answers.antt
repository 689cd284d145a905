use Rattle.std.proofs.Common.{refl, sym}
use Rattle.std.proofs.lemmas.Result.{err_from_is_err_and}
use Rattle.ssq_runner.specs.Stops.{uncounted, short}
use Rattle.ssq_runner.proofs.rounds.count_again.Goals as goal

pub returns-in_err-found-clause-unready : goal.returns-in_err-found-clause-unready
returns-in_err-found-clause-unready g c =
    let p = err_from_is_err_and c.from_residual.result c.from_residual.ensures.1 in
    rw (p.1, p.2) (uncounted _ refl c.in_err-found.ensures.stopped)

pub returns-in-Some-clause-unready : goal.returns-in-Some-clause-unready
returns-in-Some-clause-unready g c =
    short c.in_ok-found.found.items c.in-Some.cause c.in_ok-found.ensures.asked (rw (sym c.last_ends.ensures, sym c.as_slice.ensures.value) (sym c.in-Some.ensures)) refl
