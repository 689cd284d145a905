use Rattle.std.proofs.Common.{◌≡◌, subst, Bool, true, false}
use Rattle.ssq_check.specs.declared.fault.Cause.TheVariants as cause
use Rattle.ssq_check.specs.Fault.{FirstOf}
use Rattle.ssq_check.specs.Broken.{Rule}
use Rattle.ssq_check.specs.Names.{is_there}
use Rattle.ssq_check.specs.Clauses.{is_no_time}
use Rattle.ssq_check.proofs.Ends.{first_of_two}
use Rattle.ssq_check.proofs.stream.event_fault.Goals as goal

pub returns : goal.returns
returns c =
    let Unknown = λ (there : Bool). Rule cause.UnknownName c.args.at (there ≡ false) in
    let Untimed = λ (untimed : Bool). Rule cause.WrongType c.args.at (untimed ≡ true) in
    first_of_two (Unknown (is_there c.args.spot)) (Untimed (is_no_time c.args.spot)) c.unless-unknown.result c.rule-untimed.result c.sooner.result c.sooner.ensures
    (subst (λ (there : Bool). FirstOf (Unknown there) c.unless-unknown.result) c.is_some.ensures c.unless-unknown.ensures)
    (subst (λ (untimed : Bool). FirstOf (Untimed untimed) c.rule-untimed.result) c.is_no_time.ensures c.rule-untimed.ensures)
