use Rattle.std.proofs.Common.{length, map}
use Rattle.ssq_lex.specs.Lexeme.{lexed}
use Rattle.ssq_lex.proofs.Steps.{IsRead}
use Rattle.ssq_lex.proofs.lexer.tokens_to_fault.Given as goal

abbrev pub invariant-loop-rest : goal.invariant-loop-rest
invariant-loop-rest l = IsRead l.text (map lexed l.tokens.items) l.at l.rest

abbrev pub decreases-loop-rest : goal.decreases-loop-rest
decreases-loop-rest l = length l.rest
