use Rattle.std.proofs.Common.{◌++◌, sym, subst, ap, ◌∙◌, IsUtf8}
use Rattle.json.specs.Print.{quoted}
use Rattle.ssq_json.proofs.Restoring.{quoted_apart, quoted-plain}
use Rattle.ssq_json.proofs.stored.take_text.Goals as goal

pub returns-in_ok-from_str-in-Ok-clause-found : goal.returns-in_ok-from_str-in-Ok-clause-found
returns-in_ok-from_str-in-Ok-clause-found c =
    let read = c.in_ok-from_str-in-Ok.ensures ∙ c.in-Ok.ensures.cases.0 in (
      quoted-plain _ _ _ c.in-Some.ensures.text c.in-Some.ensures.plain ∙ ap (λ t. quoted t ++ c.in-Some.rest.now) (sym read),
      subst IsUtf8 (sym read) c.in-Ok.ensures.cases.1,
    )

pub returns-in_ok-from_str-in-Ok-clause-each : goal.returns-in_ok-from_str-in-Ok-clause-each
returns-in_ok-from_str-in-Ok-clause-each c = λ read rest utf8 is.
    let found = quoted-plain _ _ _ c.in-Some.ensures.text c.in-Some.ensures.plain in
    let same = quoted_apart c.in-Some.inside.now c.in-Some.rest.now read rest (sym found ∙ is) in
    (c.in_ok-from_str-in-Ok.ensures ∙ c.in-Ok.ensures.cases.0 ∙ same.0, same.1)

pub returns-in-Err-clause-each : goal.returns-in-Err-clause-each
returns-in-Err-clause-each c = λ read rest utf8 is.
    let found = quoted-plain _ _ _ c.in-Some.ensures.text c.in-Some.ensures.plain in
    let same = quoted_apart c.in-Some.inside.now c.in-Some.rest.now read rest (sym found ∙ is) in
    c.in-Err.ensures.cases.0 (subst IsUtf8 (sym same.0) utf8)
