use Rattle.std.proofs.Common.{◌≡◌, ◌∙◌, List, Option, Some, refl, ap, subst, arith, length}
use Rattle.std.specs.Prelude.{IfSome}
use Rattle.ssq_outside.specs.History.{files_now}
use Rattle.ssq_shape.specs.declared.bound.Stream.{Stream}
use Rattle.ssq_open.specs.declared.wanted.Opened.{Opened}
use Rattle.ssq_open.specs.Looking.{query_of, Holds}
use Rattle.ssq_run.specs.Looked.{shown, denied}
use Rattle.ssq_run.specs.Stopping.{stop_of_open}
use Rattle.ssq_run.proofs.status.status.Goals as goal

pub status_text-requires-clause-few : goal.status_text-requires-clause-few
status_text-requires-clause-few g c =
    let F : Option Opened → Type 0 = λ o. IfSome o (λ found. length found.meta.parts ≡ length c.args.bound.now.streams) in
    let each = subst F c.in-Ok-Some.field-0-is c.in-Ok-Some.ensures.streams in
    let few = c.requires.few in
    omega (arith, each, few)

pub returns-in_ok-status_text-in-Ok-Some-clause-told : goal.returns-in_ok-status_text-in-Ok-Some-clause-told
returns-in_ok-status_text-in-Ok-Some-clause-told g c = λ tells.
    let F : Option Opened → Type 0 = λ o. IfSome o (Holds (query_of c.args.bound.now) (files_now (g.D.Disk.history c.args.disk.now))) in
    shown c.in-Ok-Some.found (subst F c.in-Ok-Some.field-0-is (c.in-Ok-Some.ensures.found tells)) c.in_ok-status_text-in-Ok-Some.ensures refl

pub returns-in_ok-stop_of_open-in-Err-clause-stop : goal.returns-in_ok-stop_of_open-in-Err-clause-stop
returns-in_ok-stop_of_open-in-Err-clause-stop g c = λ tells.
    denied c.in-Err.fault (c.in-Err.ensures.denied tells) (c.in-Err.ensures.outside tells) refl
    (ap Some (c.in_ok-stop_of_open-in-Err.ensures ∙ ap (λ (streams : List Stream). stop_of_open streams c.in-Err.fault) c.as_slice.ensures))
