use Rattle.std.proofs.Common.{ap, ◌∙◌, of_z}
use Rattle.std.specs.Int.{w128}
use Rattle.std.proofs.lemmas.Int.{to_z-of_z}
use Rattle.ssq_field.proofs.BigEndian.{twos_complement-is}
use Rattle.ssq_field.proofs.big_endian.put_be128.Goals as goal

pub returns-clause-ok : goal.returns-clause-ok
returns-clause-ok c =
    let is = c.cast_unsigned.ensures ∙ ap (of_z w128) (to_z-of_z w128 c.args.number c.ranges.number) in
    rw (twos_complement-is c.args.number c.cast_unsigned.result c.to_be_bytes.result is c.to_be_bytes.ensures) c.extend.ensures.ok
