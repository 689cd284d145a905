use Rattle.ssq_lex.specs.Lexeme.{symbol}
use Rattle.ssq_lex.proofs.Adding.{added}
use Rattle.ssq_lex.proofs.printer.Printer.symbol.Goals as goal

pub returns : goal.returns
returns c = rw (c.ended.ensures, c.symbol_end.ensures) (added c.self.view_is (symbol c.args.word) _ c.push_word-added.result (rw (c.symbol_touches.ensures, c.text.ensures) at c.push_word-added.ensures))
