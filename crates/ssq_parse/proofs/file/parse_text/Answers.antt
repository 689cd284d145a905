use Rattle.std.proofs.Common.{length, ap, ◌∙◌, map}
use Rattle.ssq_lex.specs.Lexeme.{lexed}
use Rattle.ssq_parse.proofs.Files.{cut_answers}
use Rattle.ssq_parse.proofs.file.parse_text.Goals as goal

pub returns : goal.returns
returns c =
    cut_answers (length c.args.text.now) c.args.text.now c.in_ok-found.found _ c.judged.result c.in_ok-found.ensures.cut
    (c.new.ensures ∙ ap (map lexed) c.as_slice.ensures.value) (c.judged.ensures _ c.query-read.ensures)
