use Rattle.std.proofs.Common.{◌∙◌, List, ap, inl, sym}
use Rattle.ssq_shape.specs.declared.bound.Stream.{Stream}
use Rattle.ssq_run.specs.Stopping.{stop_of_open}
use Rattle.ssq_run.proofs.Showing.{none_tells, there_tells}
use Rattle.ssq_run.proofs.show.is_there.Goals as goal

pub returns-in-Ok-clause-found : goal.returns-in-Ok-clause-found
returns-in-Ok-clause-found g c = λ tells yes. there_tells _ _ c.in-Ok.names (c.in-Ok.ensures.found tells) (sym c.is_some.ensures ∙ yes)

pub returns-in-Ok-clause-none : goal.returns-in-Ok-clause-none
returns-in-Ok-clause-none g c = λ tells no. none_tells _ c.in-Ok.names (c.in-Ok.ensures.none tells) (sym c.is_some.ensures ∙ no)

pub returns-in_ok-stop_of_open-in-Err-clause-fault : goal.returns-in_ok-stop_of_open-in-Err-clause-fault
returns-in_ok-stop_of_open-in-Err-clause-fault g c = λ tells.
    inl (
      c.in-Err.fault,
      record { record_denied = c.in-Err.ensures.denied tells; outside = c.in-Err.ensures.outside tells },
      c.in_ok-stop_of_open-in-Err.ensures ∙ ap (λ (streams : List Stream). stop_of_open streams c.in-Err.fault) c.as_slice.ensures,
    )
