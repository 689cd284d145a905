use Rattle.std.proofs.Common.{◌∙◌, sym, ap, take, Ok}
use Rattle.ssq_lex.specs.Cut.{closing}
use Rattle.ssq_lex.proofs.Boundaries.{quote_boundary, content_boundary, end_boundary, text_found}
use Rattle.ssq_lex.proofs.front.quoted.Goals as goal

pub split_at-requires : goal.split_at-requires
split_at-requires c = quote_boundary c.args.text.now c.utf8.text c.requires

pub split_at-requires-in-Some : goal.split_at-requires-in-Some
split_at-requires-in-Some c = content_boundary {text = c.args.text.now} {bytes = c.as_bytes.result.now} (record {
  utf8 = c.utf8.text;
  opens = c.requires;
  inner_is = c.split_at.ensures.back;
  bytes_are = c.as_bytes.ensures.value;
  quote = c.in-Some.ensures.quote;
})

pub cut-requires-clause-boundary : goal.cut-requires-clause-boundary
cut-requires-clause-boundary c = end_boundary {inner = c.split_at.result.1.now} {bytes = c.as_bytes.result.now} (record {
  utf8 = c.utf8.text;
  opens = c.requires;
  inner_is = c.split_at.ensures.back;
  bytes_are = c.as_bytes.ensures.value;
  quote = c.in-Some.ensures.quote;
})

pub returns-in-Some : goal.returns-in-Some
returns-in-Some c =
    let inner_is = c.split_at.ensures.back in
    let found = text_found c.args.text.now c.split_at-in-Some.result.0.now c.in-Some.len (ap closing (sym (c.as_bytes.ensures.value ∙ inner_is)) ∙ sym c.in-Some.ensures.value) (c.split_at-in-Some.ensures.front ∙ ap (take c.in-Some.len) inner_is) in
    (found ∙ ap Ok (sym c.cut.ensures.said), c.cut.ensures.cut)
