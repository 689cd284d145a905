use Rattle.std.proofs.Common.{◌≡◌, ◌∙◌, ap, subst, Bool, true, Result}
use Rattle.ssq_check.specs.declared.fault.BindFault.{BindFault}
use Rattle.ssq_check.specs.declared.fault.Cause.TheVariants as cause
use Rattle.ssq_check.specs.declared.scope.Spot.{Spot}
use Rattle.ssq_check.specs.Fault.{FirstOf}
use Rattle.ssq_check.specs.Broken.{Either, Rule, Told}
use Rattle.ssq_check.specs.Scope.{bare_spot}
use Rattle.ssq_check.specs.Joined.{spot_in}
use Rattle.ssq_check.specs.Clauses.{is_no_time, slide_of, has_window_columns, IdentFaults, SizeFaults}
use Rattle.ssq_check.proofs.Ends.{first_of_two}
use Rattle.ssq_check.proofs.clause.window_fault.Goals as goal

pub returns : goal.returns
returns c =
    let scope = c.args.scope.now in
    let window = c.args.window.now in
    let Untimed = λ (untimed : Bool). Rule cause.WrongType window.column.at (untimed ≡ true) in
    let Typed = Untimed (is_no_time (spot_in (bare_spot scope window.column))) in
    let Sized = SizeFaults window.at window.size.micros (slide_of window) in
    let Named = λ (named : Bool). Rule cause.DoubleName window.at (named ≡ true) in
    let Apart = Named (has_window_columns scope) in
    first_of_two (IdentFaults scope window.column) (Either Typed (Either Sized Apart)) c.fault_in-known.result c.sooner-2.result c.sooner-3.result c.sooner-3.ensures
    (subst (λ (found : Result Spot BindFault). FirstOf (Told found) c.fault_in-known.result) c.bare_spot-spot.ensures c.fault_in-known.ensures.first)
    (first_of_two Typed (Either Sized Apart) c.rule-typed.result c.sooner.result c.sooner-2.result c.sooner-2.ensures
    (subst (λ (untimed : Bool). FirstOf (Untimed untimed) c.rule-typed.result) (c.is_no_time.ensures ∙ ap is_no_time (c.spot_in.ensures ∙ ap spot_in c.bare_spot-spot.ensures)) c.rule-typed.ensures)
    (first_of_two Sized Apart c.size_fault-size.result c.rule-named.result c.sooner.result c.sooner.ensures
    c.size_fault-size.ensures
    (subst (λ (named : Bool). FirstOf (Named named) c.rule-named.result) c.has_window_columns.ensures c.rule-named.ensures)))
