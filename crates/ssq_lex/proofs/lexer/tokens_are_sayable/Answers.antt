use Rattle.ssq_lex.proofs.Cuts.{tokens_say}
use Rattle.ssq_lex.proofs.lexer.tokens_are_sayable.Goals as goal

pub returns : goal.returns
returns c = tokens_say
