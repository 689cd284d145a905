use Rattle.std.proofs.Common.{◌≡◌, rules, subst, pos, Bool, true}
use Rattle.std.specs.Prelude.{int_lt, ◌*ℤ◌}
use Rattle.ssq_check.specs.declared.fault.Cause.TheVariants as cause
use Rattle.ssq_check.specs.Fault.{FirstOf}
use Rattle.ssq_check.specs.Broken.{Rule}
use Rattle.ssq_check.specs.Clauses.{slide_of}
use Rattle.ssq_check.proofs.Ends.{first_of_two}
use Rattle.ssq_check.proofs.clause.size_fault.Goals as goal

pub returns : goal.returns
returns c =
    let window = c.args.window.now in
    let Apart = λ (apart : Bool). Rule cause.BadWindow window.at (apart ≡ true) in
    let Many = λ (many : Bool). Rule cause.TooMany window.at (many ≡ true) in
    let apart : c.are_apart.result ≡ int_lt window.size.micros (slide_of window) = search rules in
    let many : c.are_many.result ≡ int_lt (pos 64 *ℤ slide_of window) window.size.micros = search rules in
    first_of_two (Apart (int_lt window.size.micros (slide_of window))) (Many (int_lt (pos 64 *ℤ slide_of window) window.size.micros)) c.rule-apart.result c.rule-many.result c.sooner.result c.sooner.ensures
    (subst (λ (b : Bool). FirstOf (Apart b) c.rule-apart.result) apart c.rule-apart.ensures) (subst (λ (b : Bool). FirstOf (Many b) c.rule-many.result) many c.rule-many.ensures)
