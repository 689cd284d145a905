use Rattle.std.proofs.Common.{rules, refl}
use Rattle.ssq_expr.proofs.Opened.{negated_opened, not_opened, is_null_opened, arithmetic_opened, shifted_opened, joined_opened, compared_opened, between_opened, and_opened, or_opened}
use Rattle.ssq_expr.proofs.evaluate.+evaluation.Goals as goal

pub operated-returns-in_err-evaluate-in-Negated : goal.operated-returns-in_err-evaluate-in-Negated
operated-returns-in_err-evaluate-in-Negated t c = rw (negated_opened c.args.aggregates.now c.args.expression.now c.args.row.now c.in-Negated.a c.get.result.now c.in-Negated.is c.get.ensures) (search rules)

pub operated-returns-in_err-negated-in-Negated : goal.operated-returns-in_err-negated-in-Negated
operated-returns-in_err-negated-in-Negated t c = rw (negated_opened c.args.aggregates.now c.args.expression.now c.args.row.now c.in-Negated.a c.get.result.now c.in-Negated.is c.get.ensures) (search rules)

pub operated-returns-in_err-evaluate-in-Not : goal.operated-returns-in_err-evaluate-in-Not
operated-returns-in_err-evaluate-in-Not t c = rw (not_opened c.args.aggregates.now c.args.expression.now c.args.row.now c.in-Not.a c.get-in-Not.result.now c.in-Not.is c.get-in-Not.ensures) (search rules)

pub operated-returns-in_err-evaluate-in-IsNull : goal.operated-returns-in_err-evaluate-in-IsNull
operated-returns-in_err-evaluate-in-IsNull t c = rw (is_null_opened c.args.aggregates.now c.args.expression.now c.args.row.now c.in-IsNull.a c.get-in-IsNull.result.now c.in-IsNull.is c.get-in-IsNull.ensures) (search rules)

pub operated-returns-in_err-evaluate-in-Arithmetic : goal.operated-returns-in_err-evaluate-in-Arithmetic
operated-returns-in_err-evaluate-in-Arithmetic t c = rw (arithmetic_opened c.args.aggregates.now c.args.expression.now c.args.row.now c.in-Arithmetic.op c.in-Arithmetic.a c.get-in-Arithmetic.result.now c.in-Arithmetic.b c.in-Arithmetic.b c.in-Arithmetic.is c.get-in-Arithmetic.ensures refl) (search rules)

pub operated-returns-in_err-evaluate-in-Arithmetic-2 : goal.operated-returns-in_err-evaluate-in-Arithmetic-2
operated-returns-in_err-evaluate-in-Arithmetic-2 t c = rw (arithmetic_opened c.args.aggregates.now c.args.expression.now c.args.row.now c.in-Arithmetic.op c.in-Arithmetic.a c.get-in-Arithmetic.result.now c.in-Arithmetic.b c.get-in-Arithmetic-2.result.now c.in-Arithmetic.is c.get-in-Arithmetic.ensures c.get-in-Arithmetic-2.ensures) (search rules)

pub operated-returns-in_err-arithmetic-in-Arithmetic : goal.operated-returns-in_err-arithmetic-in-Arithmetic
operated-returns-in_err-arithmetic-in-Arithmetic t c = rw (arithmetic_opened c.args.aggregates.now c.args.expression.now c.args.row.now c.in-Arithmetic.op c.in-Arithmetic.a c.get-in-Arithmetic.result.now c.in-Arithmetic.b c.get-in-Arithmetic-2.result.now c.in-Arithmetic.is c.get-in-Arithmetic.ensures c.get-in-Arithmetic-2.ensures) (search rules)

pub operated-returns-in_err-evaluate-in-Shifted : goal.operated-returns-in_err-evaluate-in-Shifted
operated-returns-in_err-evaluate-in-Shifted t c = rw (shifted_opened c.args.aggregates.now c.args.expression.now c.args.row.now c.in-Shifted.a c.get-in-Shifted.result.now c.in-Shifted.by c.in-Shifted.is c.get-in-Shifted.ensures) (search rules)

pub operated-returns-in_err-shifted-in-Shifted : goal.operated-returns-in_err-shifted-in-Shifted
operated-returns-in_err-shifted-in-Shifted t c = rw (shifted_opened c.args.aggregates.now c.args.expression.now c.args.row.now c.in-Shifted.a c.get-in-Shifted.result.now c.in-Shifted.by c.in-Shifted.is c.get-in-Shifted.ensures) (search rules)

pub operated-returns-in_err-left-in-Joined : goal.operated-returns-in_err-left-in-Joined
operated-returns-in_err-left-in-Joined t c = rw (joined_opened c.args.aggregates.now c.args.expression.now c.args.row.now c.in-Joined.a c.get-in-Joined.result.now c.in-Joined.b c.in-Joined.b c.in-Joined.is c.get-in-Joined.ensures refl) (search rules)

pub operated-returns-in_err-right-in-Joined : goal.operated-returns-in_err-right-in-Joined
operated-returns-in_err-right-in-Joined t c = rw (joined_opened c.args.aggregates.now c.args.expression.now c.args.row.now c.in-Joined.a c.get-in-Joined.result.now c.in-Joined.b c.get-in-Joined-2.result.now c.in-Joined.is c.get-in-Joined.ensures c.get-in-Joined-2.ensures) (search rules)

pub operated-returns-in_err-joined-in-Joined : goal.operated-returns-in_err-joined-in-Joined
operated-returns-in_err-joined-in-Joined t c = rw (joined_opened c.args.aggregates.now c.args.expression.now c.args.row.now c.in-Joined.a c.get-in-Joined.result.now c.in-Joined.b c.get-in-Joined-2.result.now c.in-Joined.is c.get-in-Joined.ensures c.get-in-Joined-2.ensures) (search rules)

pub operated-returns-in_err-left-in-Compared : goal.operated-returns-in_err-left-in-Compared
operated-returns-in_err-left-in-Compared t c = rw (compared_opened c.args.aggregates.now c.args.expression.now c.args.row.now c.in-Compared.comparison c.in-Compared.a c.get-in-Compared.result.now c.in-Compared.b c.in-Compared.b c.in-Compared.is c.get-in-Compared.ensures refl) (search rules)

pub operated-returns-in_err-right-in-Compared : goal.operated-returns-in_err-right-in-Compared
operated-returns-in_err-right-in-Compared t c = rw (compared_opened c.args.aggregates.now c.args.expression.now c.args.row.now c.in-Compared.comparison c.in-Compared.a c.get-in-Compared.result.now c.in-Compared.b c.get-in-Compared-2.result.now c.in-Compared.is c.get-in-Compared.ensures c.get-in-Compared-2.ensures) (search rules)

pub operated-returns-in_err-value-in-Between : goal.operated-returns-in_err-value-in-Between
operated-returns-in_err-value-in-Between t c = rw (between_opened c.args.aggregates.now c.args.expression.now c.args.row.now c.in-Between.a c.get-in-Between.result.now c.in-Between.b c.in-Between.b c.in-Between.c c.in-Between.c c.in-Between.is c.get-in-Between.ensures refl refl) (search rules)

pub operated-returns-in_err-least-in-Between : goal.operated-returns-in_err-least-in-Between
operated-returns-in_err-least-in-Between t c = rw (between_opened c.args.aggregates.now c.args.expression.now c.args.row.now c.in-Between.a c.get-in-Between.result.now c.in-Between.b c.get-in-Between-2.result.now c.in-Between.c c.in-Between.c c.in-Between.is c.get-in-Between.ensures c.get-in-Between-2.ensures refl) (search rules)

pub operated-returns-then-eq : goal.operated-returns-then-eq
operated-returns-then-eq t c = rw (between_opened c.args.aggregates.now c.args.expression.now c.args.row.now c.in-Between.a c.get-in-Between.result.now c.in-Between.b c.get-in-Between-2.result.now c.in-Between.c c.in-Between.c c.in-Between.is c.get-in-Between.ensures c.get-in-Between-2.ensures refl) (search rules)

pub operated-returns-in_err-most-in-Between : goal.operated-returns-in_err-most-in-Between
operated-returns-in_err-most-in-Between t c = rw (between_opened c.args.aggregates.now c.args.expression.now c.args.row.now c.in-Between.a c.get-in-Between.result.now c.in-Between.b c.get-in-Between-2.result.now c.in-Between.c c.get-in-Between-3.result.now c.in-Between.is c.get-in-Between.ensures c.get-in-Between-2.ensures c.get-in-Between-3.ensures) (search rules)

pub operated-returns-in_err-evaluate-in-And : goal.operated-returns-in_err-evaluate-in-And
operated-returns-in_err-evaluate-in-And t c = rw (and_opened c.args.aggregates.now c.args.expression.now c.args.row.now c.in-And.a c.get-in-And.result.now c.in-And.b c.in-And.b c.in-And.is c.get-in-And.ensures refl) (search rules)

pub operated-returns-then-eq-2 : goal.operated-returns-then-eq-2
operated-returns-then-eq-2 t c = rw (and_opened c.args.aggregates.now c.args.expression.now c.args.row.now c.in-And.a c.get-in-And.result.now c.in-And.b c.in-And.b c.in-And.is c.get-in-And.ensures refl) (search rules)

pub operated-returns-in_err-evaluate-in-And-2 : goal.operated-returns-in_err-evaluate-in-And-2
operated-returns-in_err-evaluate-in-And-2 t c = rw (and_opened c.args.aggregates.now c.args.expression.now c.args.row.now c.in-And.a c.get-in-And.result.now c.in-And.b c.get-in-And-2.result.now c.in-And.is c.get-in-And.ensures c.get-in-And-2.ensures) (search rules)

pub operated-returns-in_err-evaluate-in-Or : goal.operated-returns-in_err-evaluate-in-Or
operated-returns-in_err-evaluate-in-Or t c = rw (or_opened c.args.aggregates.now c.args.expression.now c.args.row.now c.in-Or.a c.get-in-Or.result.now c.in-Or.b c.in-Or.b c.in-Or.is c.get-in-Or.ensures refl) (search rules)

pub operated-returns-then-eq-3 : goal.operated-returns-then-eq-3
operated-returns-then-eq-3 t c = rw (or_opened c.args.aggregates.now c.args.expression.now c.args.row.now c.in-Or.a c.get-in-Or.result.now c.in-Or.b c.in-Or.b c.in-Or.is c.get-in-Or.ensures refl) (search rules)

pub operated-returns-in_err-evaluate-in-Or-2 : goal.operated-returns-in_err-evaluate-in-Or-2
operated-returns-in_err-evaluate-in-Or-2 t c = rw (or_opened c.args.aggregates.now c.args.expression.now c.args.row.now c.in-Or.a c.get-in-Or.result.now c.in-Or.b c.get-in-Or-2.result.now c.in-Or.is c.get-in-Or.ensures c.get-in-Or-2.ensures) (search rules)

pub operated-returns-in_ok-negated-in-Negated : goal.operated-returns-in_ok-negated-in-Negated
operated-returns-in_ok-negated-in-Negated t c = rw (negated_opened c.args.aggregates.now c.args.expression.now c.args.row.now c.in-Negated.a c.get.result.now c.in-Negated.is c.get.ensures) (search rules)

pub operated-returns-in_ok-evaluate-in-Not : goal.operated-returns-in_ok-evaluate-in-Not
operated-returns-in_ok-evaluate-in-Not t c = rw (not_opened c.args.aggregates.now c.args.expression.now c.args.row.now c.in-Not.a c.get-in-Not.result.now c.in-Not.is c.get-in-Not.ensures) (search rules)

pub operated-returns-in_ok-evaluate-in-IsNull : goal.operated-returns-in_ok-evaluate-in-IsNull
operated-returns-in_ok-evaluate-in-IsNull t c = rw (is_null_opened c.args.aggregates.now c.args.expression.now c.args.row.now c.in-IsNull.a c.get-in-IsNull.result.now c.in-IsNull.is c.get-in-IsNull.ensures) (search rules)

pub operated-returns-in_ok-arithmetic-in-Arithmetic : goal.operated-returns-in_ok-arithmetic-in-Arithmetic
operated-returns-in_ok-arithmetic-in-Arithmetic t c = rw (arithmetic_opened c.args.aggregates.now c.args.expression.now c.args.row.now c.in-Arithmetic.op c.in-Arithmetic.a c.get-in-Arithmetic.result.now c.in-Arithmetic.b c.get-in-Arithmetic-2.result.now c.in-Arithmetic.is c.get-in-Arithmetic.ensures c.get-in-Arithmetic-2.ensures) (search rules)

pub operated-returns-in_ok-shifted-in-Shifted : goal.operated-returns-in_ok-shifted-in-Shifted
operated-returns-in_ok-shifted-in-Shifted t c = rw (shifted_opened c.args.aggregates.now c.args.expression.now c.args.row.now c.in-Shifted.a c.get-in-Shifted.result.now c.in-Shifted.by c.in-Shifted.is c.get-in-Shifted.ensures) (search rules)

pub operated-returns-in_ok-joined-in-Joined : goal.operated-returns-in_ok-joined-in-Joined
operated-returns-in_ok-joined-in-Joined t c = rw (joined_opened c.args.aggregates.now c.args.expression.now c.args.row.now c.in-Joined.a c.get-in-Joined.result.now c.in-Joined.b c.get-in-Joined-2.result.now c.in-Joined.is c.get-in-Joined.ensures c.get-in-Joined-2.ensures) (search rules)

pub operated-returns-in_ok-right-in-Compared : goal.operated-returns-in_ok-right-in-Compared
operated-returns-in_ok-right-in-Compared t c = rw (compared_opened c.args.aggregates.now c.args.expression.now c.args.row.now c.in-Compared.comparison c.in-Compared.a c.get-in-Compared.result.now c.in-Compared.b c.get-in-Compared-2.result.now c.in-Compared.is c.get-in-Compared.ensures c.get-in-Compared-2.ensures) (search rules)

pub operated-returns-in_ok-most-in-Between : goal.operated-returns-in_ok-most-in-Between
operated-returns-in_ok-most-in-Between t c = rw (between_opened c.args.aggregates.now c.args.expression.now c.args.row.now c.in-Between.a c.get-in-Between.result.now c.in-Between.b c.get-in-Between-2.result.now c.in-Between.c c.get-in-Between-3.result.now c.in-Between.is c.get-in-Between.ensures c.get-in-Between-2.ensures c.get-in-Between-3.ensures) (search rules)

pub operated-returns-in_ok-evaluate-in-And-2 : goal.operated-returns-in_ok-evaluate-in-And-2
operated-returns-in_ok-evaluate-in-And-2 t c = rw (and_opened c.args.aggregates.now c.args.expression.now c.args.row.now c.in-And.a c.get-in-And.result.now c.in-And.b c.get-in-And-2.result.now c.in-And.is c.get-in-And.ensures c.get-in-And-2.ensures) (search rules)

pub operated-returns-in_ok-evaluate-in-Or-2 : goal.operated-returns-in_ok-evaluate-in-Or-2
operated-returns-in_ok-evaluate-in-Or-2 t c = rw (or_opened c.args.aggregates.now c.args.expression.now c.args.row.now c.in-Or.a c.get-in-Or.result.now c.in-Or.b c.get-in-Or-2.result.now c.in-Or.is c.get-in-Or.ensures c.get-in-Or-2.ensures) (search rules)
