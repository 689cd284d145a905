use Rattle.std.proofs.Common.{◌∙◌, ◌++◌, ◌∷◌, [], sym, ap, string_bytes, arith}
use Rattle.std.proofs.lemmas.Str.Pattern.{split_parts}
use Rattle.ssq_lex.specs.Lexeme.{undoubled}
use Rattle.ssq_lex.proofs.Quotes.{undoubles_on, undoubled-none, lacks}
use Rattle.ssq_lex.proofs.quoting.unquoted.Goals as goal

pub loop-before-preserved : goal.loop-before-preserved
loop-before-preserved c =
    let split = rw c.in-Some.is at (split_parts 39 c.loop-before.rest.now c.split_once.result c.split_once.ensures.cases (omega arith)) in (
      ap (λ t. t ++ undoubled c.behind_quote-rest.result.now) (c.in_ok-push_str-2.ensures.bytes ∙ ap (λ t. t ++ 39 ∷ []) c.in_ok-push_str.ensures.bytes)
          ∙ undoubles_on (string_bytes c.loop-before.text) c.loop-before.rest.now c.in-Some.before.now c.in-Some.after.now c.behind_quote-rest.result.now _ c.loop-before.invariant.0 split c.behind_quote-rest.ensures.value,
      c.behind_quote-rest.utf8,
    )

pub returns : goal.returns
returns c =
    let none = rw c.in_default.is at (split_parts 39 c.loop-before.rest.now c.split_once.result c.split_once.ensures.cases (omega arith)) in
    c.in_ok-push_str-3.ensures.bytes ∙ ap (λ t. string_bytes c.loop-before.text ++ t) (sym (undoubled-none c.loop-before.rest.now (lacks _ none))) ∙ c.loop-before.invariant.0
