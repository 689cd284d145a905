use Rattle.std.proofs.Common.{ap, ◌∙◌, of_z, rules}
use Rattle.std.specs.Int.{w128}
use Rattle.std.proofs.lemmas.Int.{to_z-of_z}
use Rattle.ssq_field.proofs.BigEndian.{twos_complement-is}
use Rattle.ssq_agg.proofs.total_bytes.put_sum.Goals as goal

pub returns : goal.returns
returns c =
    let is = c.cast_unsigned.ensures ∙ ap (of_z w128) (to_z-of_z w128 c.args.sum c.ranges.sum) in
    rw (twos_complement-is c.args.sum c.cast_unsigned.result c.to_be_bytes.result is c.to_be_bytes.ensures) (search rules)
