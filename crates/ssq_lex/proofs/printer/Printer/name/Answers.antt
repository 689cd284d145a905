use Rattle.ssq_lex.specs.Lexeme.{name}
use Rattle.ssq_lex.proofs.Adding.{added}
use Rattle.ssq_lex.proofs.printer.Printer.name.Goals as goal

pub returns : goal.returns
returns c = rw (c.ended.ensures) (added c.self.view_is (name c.args.text.now) _ c.push_word-added.result (rw (c.is_joined.ensures) at c.push_word-added.ensures))
