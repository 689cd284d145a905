use Rattle.std.proofs.Common.{◌∙◌, ap}
use Rattle.ssq_json.proofs.Writing.{one_grown}
use Rattle.ssq_json.proofs.Utf8.{one_token}
use Rattle.ssq_json.proofs.written.put_escaped.Goals as goal

pub returns-clause-text : goal.returns-clause-text
returns-clause-text c =
    one_grown _ _ _ _ _ _ c.new-writer.ensures.tokens (c.new-writer.ensures.before ∙ ap (λ taken. taken.items) c.replace.ensures.value) c.string-done.ensures c.into_inner.ensures.items

pub returns-clause-utf8 : goal.returns-clause-utf8
returns-clause-utf8 c = one_token _ _ _ _ c.new-writer.ensures.tokens c.string-done.ensures c.into_inner.ensures.utf8
