use Rattle.std.specs.Int.{w64}
use Rattle.std.proofs.lemmas.Int.{to_z-of_z}
use Rattle.ssq_lex.specs.Lexeme.{number}
use Rattle.ssq_lex.proofs.Adding.{added}
use Rattle.ssq_lex.proofs.printer.Printer.number.Goals as goal

pub returns : goal.returns
returns c = rw (c.ended.ensures) (added c.self.view_is (number c.args.value) _ c.push_number-added.result (rw (c.is_joined.ensures, to_z-of_z w64 c.args.value c.ranges.value) at c.push_number-added.ensures))
