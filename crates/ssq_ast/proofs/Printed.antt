-- Words that are printed one part after the other.
use Rattle.std.proofs.Common.{◌≡◌, ℕ, ◌+◌, ◌<◌, ◌≤◌, false, ◌==◌, length, get_or, drop, sym, ap, ◌∙◌, subst, refl, List, [], ◌∷◌, ◌++◌, map, append-nil}
use Rattle.std.specs.List.{flat_map}
use Rattle.std.proofs.lemmas.List.{drop_all, drop_more}
use Rattle.std.proofs.lemmas.List.Sums.{fold-append}
use Rattle.ssq_lex.specs.Printing.{Printed, Print, WholeAs, Adds, with_word, with_words}
use Rattle.ssq_lex.specs.Lexeme.{keyword, symbol}
use Rattle.ssq_lex.specs.declared.keyword.Keyword.{Keyword}
use Rattle.ssq_lex.specs.declared.keyword.Keyword.TheVariants as key
use Rattle.ssq_lex.specs.declared.symbol.Symbol.TheVariants as mark
use Rattle.ssq_ast.specs.declared.expr.BinaryOp.{BinaryOp}
use Rattle.ssq_ast.specs.declared.expr.Expr.{Expr}
use Rattle.ssq_ast.specs.declared.expr.Expr.TheViews as view
use Rattle.ssq_ast.specs.declared.expr.Function.{Function}
use Rattle.ssq_ast.specs.declared.expr.NullTest.{NullTest}
use Rattle.ssq_ast.specs.declared.expr.UnaryOp.{UnaryOp}
use Rattle.ssq_ast.specs.Expression.{Words, words, plain, within, function_key, unary_word, binary_word, test_words, unary_level, left_level, right_level}
use Rattle.ssq_ast.specs.declared.query.OrderBy.{OrderBy}
use Rattle.ssq_ast.specs.Canonical.{plain_order}
use Rattle.ssq_ast.proofs.Boxes.{aggregate_is, unary_is, is_null_is, binary_is, between_is}
use Rattle.ssq_ast.specs.Statement.{comma, separated, order_words, order_item_words}

pub with_words-append : (printed : Printed) (xs ys : Words) → with_words printed (xs ++ ys) ≡ with_words (with_words printed xs) ys
with_words-append printed xs ys = fold-append with_word printed xs ys

-- parts with commas between them: the first, and then each other after a comma
pub separated-led : {A : Type 0} (written : A → Words) (x : A) (xs : List A) → separated (map written (x ∷ xs)) ≡ written x ++ flat_map (λ y. comma ∷ written y) xs
separated-led written x [] = sym (append-nil (written x))
separated-led written x (y ∷ xs) = ap (λ ws. written x ++ comma ∷ ws) (separated-led written y xs)

-- words, and then more
pub behind : {print : Print} (before : Printed) (xs ys : Words) → WholeAs print (with_words (with_words before xs) ys) → WholeAs print (with_words before (xs ++ ys))
behind {print = print} before xs ys whole = subst (WholeAs print) (sym (with_words-append before xs ys)) whole

pub ruleset printing = (behind, separated-led)

-- a part of a list was added, and then those after it
pub each_more : {A : Type 0} (written : A → Words) (parts : List A) (i : ℕ) (part : A) {now with_part last : Print} → i < length parts → part ≡ get_or parts i part →
    Adds now (written part) with_part → Adds with_part (flat_map written (drop (i + 1) parts)) last → Adds now (flat_map written (drop i parts)) last
each_more written parts i part within is first rest before held =
    let here : drop i parts ≡ part ∷ drop (i + 1) parts = drop_more parts i part within ∙ ap (λ x. x ∷ drop (i + 1) parts) (sym is) in
    rw here (behind before (written part) (flat_map written (drop (i + 1) parts)) (rest (with_words before (written part)) (first before held)))

-- none is left
pub each_done : {A : Type 0} (written : A → Words) (parts : List A) (i : ℕ) (now : Print) → length parts ≤ i → Adds now (flat_map written (drop i parts)) now
each_done written parts i now none = rw (drop_all i parts none) (λ before held. held)

-- parts that are made before they are written
pub map_written : {A B : Type 0} (written : B → Words) (f : A → B) (xs : List A) → map written (map f xs) ≡ map (λ x. written (f x)) xs
map_written written f [] = refl
map_written written f (x ∷ xs) = ap (λ ws. written (f x) ∷ ws) (map_written written f xs)

pub flat_map-map : {A B : Type 0} (written : B → Words) (made : A → B) (xs : List A) → flat_map written (map made xs) ≡ flat_map (λ x. written (made x)) xs
flat_map-map written made [] = refl
flat_map-map written made (x ∷ xs) = ap (λ ws. written (made x) ++ ws) (flat_map-map written made xs)

-- ORDER BY stands where there is an order
pub order_words_filled : (orders : List OrderBy) → (length orders == 0) ≡ false → order_words (map plain_order orders) ≡ keyword key.Order ∷ keyword key.By ∷ separated (map order_item_words (map plain_order orders))
order_words_filled [] h = cc
order_words_filled (order ∷ orders) h = refl

-- The words of an expression by its parts, as the code gets them.

pub aggregate_words : (value argument argument' : Expr) (f : Function) (at : ℕ) (k : Keyword) → value ≡ view.Aggregate f at argument → argument' ≡ argument → k ≡ function_key f → words (plain value) ≡ keyword k ∷ symbol mark.LeftParen ∷ words (plain argument') ++ symbol mark.RightParen ∷ []
aggregate_words value argument argument' f at k value_is argument_is k_is = rw (k_is, argument_is, value_is, aggregate_is f at argument) refl

pub unary_words : (value operand operand' : Expr) (o : UnaryOp) (at asked : ℕ) → value ≡ view.Unary o at operand → operand' ≡ operand → asked ≡ unary_level o → words (plain value) ≡ unary_word o ∷ words (within asked (plain operand'))
unary_words value operand operand' o at asked value_is operand_is asked_is = rw (asked_is, operand_is, value_is, unary_is o at operand) refl

pub is_null_words : (value operand operand' : Expr) (at : ℕ) (test : NullTest) → value ≡ view.IsNull operand at test → operand' ≡ operand → words (plain value) ≡ words (within 4 (plain operand')) ++ keyword key.Is ∷ test_words test
is_null_words value operand operand' at test value_is operand_is = rw (operand_is, value_is, is_null_is operand at test) refl

pub binary_words : (value left left' right right' : Expr) (o : BinaryOp) (left_at at right_at left_asked right_asked : ℕ) → value ≡ view.Binary left_at left o at right_at right → left' ≡ left → right' ≡ right → left_asked ≡ left_level o → right_asked ≡ right_level o → words (plain value) ≡ words (within left_asked (plain left')) ++ binary_word o ∷ words (within right_asked (plain right'))
binary_words value left left' right right' o left_at at right_at left_asked right_asked value_is left_is right_is left_asked_is right_asked_is =
    rw (left_asked_is, right_asked_is, left_is, right_is, value_is, binary_is left_at left o at right_at right) refl

pub between_words : (value operand operand' low low' high high' : Expr) (at : ℕ) → value ≡ view.Between operand at low high → operand' ≡ operand → low' ≡ low → high' ≡ high → words (plain value) ≡ (words (within 4 (plain operand')) ++ keyword key.Between ∷ words (within 4 (plain low'))) ++ keyword key.And ∷ words (within 4 (plain high'))
between_words value operand operand' low low' high high' at value_is operand_is low_is high_is =
    rw (operand_is, low_is, high_is, value_is, between_is operand at low high) refl
