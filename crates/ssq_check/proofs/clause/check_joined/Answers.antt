use Rattle.std.proofs.Common.{◌≡◌, rules, subst, Bool, true, false, bytes_eq}
use Rattle.ssq_check.specs.declared.fault.Cause.TheVariants as cause
use Rattle.ssq_check.specs.Fault.{FirstOf}
use Rattle.ssq_check.specs.Broken.{Rule}
use Rattle.ssq_check.proofs.Ends.{first_of_two}
use Rattle.ssq_check.proofs.clause.check_joined.Goals as goal

pub returns : goal.returns
returns c =
    let stream = c.args.stream.now in
    let Itself = λ (same : Bool). Rule cause.DoubleName stream.at (same ≡ true) in
    let same : c.eq.result ≡ bytes_eq stream.text c.args.from.now = search rules in
    first_of_two (Rule cause.UnknownName stream.at (c.args.is_declared ≡ false)) (Itself (bytes_eq stream.text c.args.from.now)) c.unless-unknown.result c.rule-itself.result c.sooner.result c.sooner.ensures
    c.unless-unknown.ensures (subst (λ (b : Bool). FirstOf (Itself b) c.rule-itself.result) same c.rule-itself.ensures)
