use Rattle.std.proofs.Common.{◌≡◌, ◌++◌, sym, ap, ap₂, ◌∙◌, rules}
use Rattle.json.specs.Print.{quoted}
use Rattle.ssq_json.proofs.Restoring.{quoted_apart, unquoted}
use Rattle.ssq_json.proofs.stored.take_escaped.Goals as goal

pub returns-in-Some-behind-clause-each : goal.returns-in-Some-behind-clause-each
returns-in-Some-behind-clause-each c = λ read rest utf8 is.
    let found : c.args.text.now ≡ quoted c.from_string.result ++ c.in-Some-behind.rest.now = search rules in
    quoted_apart c.from_string.result c.in-Some-behind.rest.now read rest (sym found ∙ is)

pub returns-clause-each : goal.returns-clause-each
returns-clause-each c = λ read rest utf8 is.
    let same : c.in_ok-bytes.bytes.items ≡ read = c.in_ok-bytes.ensures read rest (unquoted c.args.text.now c.in-Some.inside.now read rest c.in-Some.ensures.found is) in
    let front : c.as_slice.result.now ≡ quoted read = c.as_slice.ensures.value ∙ c.in_ok-put_text.ensures.text.ok ∙ ap₂ (λ before text. before ++ quoted text) c.new-quoted.ensures.items (c.deref.ensures ∙ ap (λ v. v.items) c.in-Ok.ensures.ok ∙ same) in
    c.in-None.ensures.each rest (is ∙ ap (λ q. q ++ rest) (sym front))
