use Rattle.ssq_field.proofs.Digits.{decimals_apart}
use Rattle.ssq_field.proofs.law.fields_are_apart.Goals as goal

pub returns-clause-decimals : goal.returns-clause-decimals
returns-clause-decimals c = decimals_apart
