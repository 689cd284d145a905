use Rattle.std.proofs.Common.{◌∙◌, ◌++◌, ◌∷◌, [], sym, ap, string_bytes, arith}
use Rattle.std.proofs.lemmas.Str.Pattern.{split_parts}
use Rattle.ssq_lex.specs.Lexeme.{doubled}
use Rattle.ssq_lex.proofs.Quotes.{doubles_on, doubled-none, lacks, utf8_behind}
use Rattle.ssq_lex.proofs.quoting.push_quoted.Goals as goal

pub loop-before-preserved : goal.loop-before-preserved
loop-before-preserved c =
    let split = rw c.in-Some.is at (split_parts 39 c.loop-before.rest.now c.split_once.result c.split_once.ensures.cases (omega arith)) in (
      ap (λ t. t ++ doubled c.in-Some.after.now) (c.in_ok-push_str-3.ensures.bytes ∙ ap (λ t. t ++ 39 ∷ 39 ∷ []) c.in_ok-push_str-2.ensures.bytes)
          ∙ doubles_on (string_bytes c.loop-before.out) c.loop-before.rest.now c.in-Some.before.now c.in-Some.after.now _ c.loop-before.invariant.0 split,
      utf8_behind c.loop-before.rest.now c.in-Some.before.now _ c.loop-before.invariant.1 split.0,
    )

pub returns : goal.returns
returns c =
    let none = rw c.in_default.is at (split_parts 39 c.loop-before.rest.now c.split_once.result c.split_once.ensures.cases (omega arith)) in
    c.in_ok-push_str-5.ensures.bytes
    ∙ ap (λ t. t ++ 39 ∷ []) (c.in_ok-push_str-4.ensures.bytes ∙ ap (λ t. string_bytes c.loop-before.out ++ t) (sym (doubled-none c.loop-before.rest.now (lacks _ none))) ∙ c.loop-before.invariant.0)
