use Rattle.ssq_lex.proofs.Boundaries.{name_boundary}
use Rattle.ssq_lex.proofs.front.word.Goals as goal

pub split_at-requires : goal.split_at-requires
split_at-requires c = (name_boundary c.args.text.now _ _ c.utf8.text c.as_bytes.ensures.value c.name_len-len.ensures c.requires).1

pub cut-requires : goal.cut-requires
cut-requires c =
    let found = name_boundary c.args.text.now _ _ c.utf8.text c.as_bytes.ensures.value c.name_len-len.ensures c.requires in
    record { some = found.0; boundary = found.1 }
