use Rattle.std.proofs.Common.{◌≡◌, sym, ◌∙◌, true, false}
use Rattle.ssq_field.specs.Decimal.{is_plain}
use Rattle.ssq_field.proofs.Digits.{value_found, value_each, never_plain}
use Rattle.ssq_field.proofs.decimal.number_of.Goals as goal

pub returns-then-are_plain-clause-found : goal.returns-then-are_plain-clause-found
returns-then-are_plain-clause-found c =
    let plain : is_plain c.args.digits.now ≡ true = sym c.are_plain.ensures ∙ c.if-are_plain.true in
    value_found c.args.digits.now c.value_of.result c.requires plain c.value_of.ensures

pub returns-then-are_plain-clause-each : goal.returns-then-are_plain-clause-each
returns-then-are_plain-clause-each c = value_each c.args.digits.now c.value_of.result c.value_of.ensures

pub returns-else-are_plain-clause-each : goal.returns-else-are_plain-clause-each
returns-else-are_plain-clause-each c number fits is =
    let plain : is_plain c.args.digits.now ≡ false = sym c.are_plain.ensures ∙ c.if-are_plain.false in
    absurd (never_plain c.args.digits.now number fits plain is)
