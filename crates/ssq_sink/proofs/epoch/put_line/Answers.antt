use Rattle.std.proofs.Common.{◌++◌, ◌∷◌, [], ap, ◌∙◌, append_assoc}
use Rattle.ssq_json.specs.RowText.{text_with}
use Rattle.ssq_json.proofs.Utf8.{appended, line_feed}
use Rattle.ssq_sink.proofs.epoch.put_line.Goals as goal

pub returns-clause-text : goal.returns-clause-text
returns-clause-text c = c.in_ok-push.ensures.items ∙ ap (λ l. l ++ 10 ∷ []) c.in_ok-put_row.ensures.text ∙ append_assoc c.args.text.now.items (text_with c.args.heads.now c.args.row.now) (10 ∷ [])

pub returns-clause-utf8 : goal.returns-clause-utf8
returns-clause-utf8 c = λ before. appended _ _ _ c.in_ok-push.ensures.items line_feed (c.in_ok-put_row.ensures.utf8 before)
