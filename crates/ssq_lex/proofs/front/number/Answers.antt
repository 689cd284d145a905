use Rattle.std.proofs.Common.{arith}
use Rattle.ssq_lex.proofs.Boundaries.{digits_boundary, digits_before}
use Rattle.ssq_lex.proofs.front.number.Goals as goal

pub split_at-requires : goal.split_at-requires
split_at-requires c = (digits_boundary c.args.text.now _ _ c.utf8.text c.as_bytes.ensures.value c.digits_len-len.ensures c.requires).1

pub value_of-requires : goal.value_of-requires
value_of-requires c =
    let found = digits_boundary c.args.text.now _ _ c.utf8.text c.as_bytes.ensures.value c.digits_len-len.ensures c.requires in
    record {
      some = omega (arith, found.0, c.split_at.ensures.front_len);
      digits = digits_before c.args.text.now _ _ _ c.as_bytes.ensures.value c.digits_len-len.ensures c.split_at.ensures.front;
    }

pub cut-requires : goal.cut-requires
cut-requires c =
    let found = digits_boundary c.args.text.now _ _ c.utf8.text c.as_bytes.ensures.value c.digits_len-len.ensures c.requires in
    record { some = found.0; boundary = found.1 }
