use Rattle.ssq_lex.proofs.Keywords.{each_is_read}
use Rattle.ssq_lex.proofs.keyword.keywords_are_read.Goals as goal

pub returns : goal.returns
returns c = each_is_read
