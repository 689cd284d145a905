use Rattle.std.proofs.Common.{◌≡◌, Some, Ok, IfSome, subst, ap}
use Rattle.serde_json.specs.Data.{Members, object}
use Rattle.serde_json.specs.Read.{read}
use Rattle.ssq_json.specs.Line.{values_in, values_of}
use Rattle.ssq_json.proofs.Reading.{json_of-none, values_read}
use Rattle.ssq_json.proofs.line.read_values.Goals as goal

pub returns-in-Ok-clause-ok : goal.returns-in-Ok-clause-ok
returns-in-Ok-clause-ok c =
    let all = subst (λ o. IfSome o (λ values. (found : Members) × (read c.args.line.now ≡ Some (object found)) × (values_of 0 c.args.columns.now (object found) ≡ Ok values.items))) c.in-Some.is c.in_ok-values.ensures in
    values_read _ _ all.0 _ c.in-Ok.ensures.1 all.1 all.2

-- what is not UTF-8 is no JSON
pub returns-in-Err-clause-err : goal.returns-in-Err-clause-err
returns-in-Err-clause-err c = λ _. ap (values_in c.args.columns.now) (json_of-none c.args.line.now (λ utf8. absurd (c.in-Err.ensures utf8)))
