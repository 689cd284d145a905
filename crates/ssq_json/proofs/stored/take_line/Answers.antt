use Rattle.std.proofs.Common.{◌≡◌, ◌∷◌, sym, ap, subst, drop, ◌∙◌}
use Rattle.std.specs.Prelude.{IsSomeAnd}
use Rattle.ssq_json.proofs.Restoring.{line_inside}
use Rattle.ssq_json.proofs.stored.take_line.Goals as goal

pub returns-in-Some-behind-clause-each : goal.returns-in-Some-behind-clause-each
returns-in-Some-behind-clause-each c = λ names of row rest are is.
    let heads = c.as_slice.ensures ∙ of in
    let inside = line_inside names c.as_slice.result.now row rest c.args.bytes.now c.in-Some.members.now heads c.in-Some.ensures.found is in
    let same = subst (λ o. IsSomeAnd o (λ r. (r.0.items ≡ row) × (r.1.now ≡ 125 ∷ (10 ∷ rest)))) c.in-Some-2.is (c.in_ok-values.ensures.each names heads row (10 ∷ rest) are inside) in
    (c.from_vec.ensures ∙ same.0, ap (drop 2) (sym c.in-Some-behind.ensures.found ∙ same.1))

pub returns-in-None-behind-clause-each : goal.returns-in-None-behind-clause-each
returns-in-None-behind-clause-each c = λ names of row rest are is.
    let heads = c.as_slice.ensures ∙ of in
    let inside = line_inside names c.as_slice.result.now row rest c.args.bytes.now c.in-Some.members.now heads c.in-Some.ensures.found is in
    let same = subst (λ o. IsSomeAnd o (λ r. (r.0.items ≡ row) × (r.1.now ≡ 125 ∷ (10 ∷ rest)))) c.in-Some-2.is (c.in_ok-values.ensures.each names heads row (10 ∷ rest) are inside) in
    c.in-None-behind.ensures.each rest same.1

pub returns-in-None-clause-each : goal.returns-in-None-clause-each
returns-in-None-clause-each c = λ names of row rest are is.
    let heads = c.as_slice.ensures ∙ of in
    let inside = line_inside names c.as_slice.result.now row rest c.args.bytes.now c.in-Some.members.now heads c.in-Some.ensures.found is in
    subst (λ o. IsSomeAnd o (λ r. (r.0.items ≡ row) × (r.1.now ≡ 125 ∷ (10 ∷ rest)))) c.in-None.is (c.in_ok-values.ensures.each names heads row (10 ∷ rest) are inside)
