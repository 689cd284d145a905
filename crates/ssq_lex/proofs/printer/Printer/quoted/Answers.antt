use Rattle.ssq_lex.specs.Lexeme.{quoted}
use Rattle.ssq_lex.proofs.Adding.{added}
use Rattle.ssq_lex.proofs.printer.Printer.quoted.Goals as goal

pub returns : goal.returns
returns c = rw (c.ended.ensures) (added c.self.view_is (quoted c.args.text.now) _ c.push_text-added.result (rw (c.is_joined.ensures) at c.push_text-added.ensures))
