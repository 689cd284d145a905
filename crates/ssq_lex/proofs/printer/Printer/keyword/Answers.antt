use Rattle.ssq_lex.specs.Lexeme.{keyword}
use Rattle.ssq_lex.proofs.Adding.{added}
use Rattle.ssq_lex.proofs.printer.Printer.keyword.Goals as goal

pub returns : goal.returns
returns c = rw (c.ended.ensures, c.keyword_end.ensures) (added c.self.view_is (keyword c.args.word) _ c.push_word-added.result (rw (c.is_joined.ensures, c.text.ensures) at c.push_word-added.ensures))
