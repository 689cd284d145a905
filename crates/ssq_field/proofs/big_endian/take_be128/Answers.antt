use Rattle.std.proofs.Common.{◌≡◌, ◌∙◌, ap, refl, arith, length, to_z, of_z, length-append}
use Rattle.std.specs.Int.{w128, cast_signed}
use Rattle.std.proofs.lemmas.Int.{to_z-of_z}
use Rattle.ssq_field.specs.Field.{twos_complement}
use Rattle.ssq_field.proofs.BigEndian.{begins_128, each_128, twos_complement-len}
use Rattle.ssq_field.proofs.big_endian.take_be128.Goals as goal

pub returns-clause-found : goal.returns-clause-found
returns-clause-found c =
    let is : to_z w128 (of_z w128 c.cast_signed.result) ≡ cast_signed w128 c.from_be_bytes.result = to_z-of_z w128 c.cast_signed.result (record { sfits = c.cast_signed.type_inv }) ∙ c.cast_signed.ensures in
    rw is (begins_128 c.args.from.now _ _ (λ i. omega (arith, c.type_inv.from i)) (omega (arith, c.in_ok-bytes.ensures.cases.2)) c.in_ok-bytes.ensures.cases.0 c.from_be_bytes.ensures)

pub returns-clause-each : goal.returns-clause-each
returns-clause-each c value rest fits any whole =
    let is : to_z w128 (of_z w128 c.cast_signed.result) ≡ cast_signed w128 c.from_be_bytes.result = to_z-of_z w128 c.cast_signed.result (record { sfits = c.cast_signed.type_inv }) ∙ c.cast_signed.ensures in
    let same = each_128 c.args.from.now _ rest _ value c.in_ok-bytes.ensures.cases.0 c.from_be_bytes.ensures fits whole in
    rw (is, same, twos_complement-len value) refl

pub returns-in_err-bytes-clause-each : goal.returns-in_err-bytes-clause-each
returns-in_err-bytes-clause-each c value rest fits any whole =
    absurd (omega (arith, c.in_err-bytes.ensures.cases, ap length whole, length-append (twos_complement value) rest, twos_complement-len value))
