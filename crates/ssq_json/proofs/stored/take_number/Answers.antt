use Rattle.std.proofs.Common.{◌≡◌}
use Rattle.std.specs.Prelude.{IsSomeAnd}
use Rattle.ssq_json.proofs.Restoring.{below_zero}
use Rattle.ssq_json.proofs.stored.take_number.Goals as goal

pub returns-in-Some-clause-each : goal.returns-in-Some-clause-each
returns-in-Some-clause-each c = λ number rest fits quiet is.
    below_zero number rest c.args.text.now c.in-Some.digits.now (λ z left. IsSomeAnd c.take_negative.result (λ r. (r.0 ≡ z) × (r.1.now ≡ left))) fits quiet c.in-Some.ensures.found is c.take_negative.ensures.each
