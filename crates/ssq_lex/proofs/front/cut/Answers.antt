use Rattle.std.proofs.Common.{sym, subst, IsUtf8}
use Rattle.std.proofs.lemmas.Str.{IsUtf8-drop}
use Rattle.ssq_lex.proofs.front.cut.Goals as goal

pub returns-clause-cut : goal.returns-clause-cut
returns-clause-cut c = record {
  some = c.requires.some;
  within = c.requires.boundary.0;
  rest = c.split_at.ensures.back;
  utf8 = subst IsUtf8 (sym c.split_at.ensures.back) (IsUtf8-drop c.args.text.now c.args.len c.utf8.text c.requires.boundary);
}
