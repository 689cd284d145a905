use Rattle.ssq_lex.proofs.Reread.{printed_read}
use Rattle.ssq_lex.proofs.Utf8.{printed_utf8}
use Rattle.ssq_lex.proofs.printer.printed_is_read.Goals as goal

pub returns : goal.returns
returns c = record { read = printed_read; utf8 = printed_utf8 }
