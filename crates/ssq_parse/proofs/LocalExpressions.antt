-- Expressions are read with one token more than they take.
use Rattle.std.proofs.Common.{◌≡◌, ℕ, zero, suc, ◌+◌, max, Bool, true, false, sym, ap, ◌∙◌, subst, arith, [], ◌∷◌, take, drop, refl, Option, Some, None, Ok, Err}
use Rattle.std.specs.Prelude.{◌==◌, nat_lt, if◌then◌else◌}
use Rattle.std.specs.List.{prefix_len}
use Rattle.ssq_ast.specs.declared.expr.BinaryOp.{BinaryOp}
use Rattle.ssq_ast.specs.declared.expr.Expr.TheVariants as e
use Rattle.ssq_ast.specs.declared.expr.Function.{Function}
use Rattle.ssq_ast.specs.declared.expr.Function.TheVariants as function
use Rattle.ssq_ast.specs.declared.expr.Ident.{Ident}
use Rattle.ssq_ast.specs.declared.expr.NullTest.{NullTest}
use Rattle.ssq_ast.specs.declared.expr.UnaryOp.{UnaryOp}
use Rattle.ssq_lex.specs.declared.keyword.Keyword.{Keyword}
use Rattle.ssq_lex.specs.declared.keyword.Keyword.TheVariants as key
use Rattle.ssq_lex.specs.declared.symbol.Symbol.TheVariants as mark
use Rattle.ssq_lex.specs.Lexeme.{Lexeme, Lexed, keyword, name, number, quoted, symbol}
use Rattle.ssq_parse.specs.declared.fault.ParseCause.TheVariants.{Expected, TooDeep}
use Rattle.ssq_parse.specs.declared.operators.Level.{Level}
use Rattle.ssq_parse.specs.declared.operators.Level.TheVariants as level
use Rattle.ssq_parse.specs.declared.tree.Tree.{Tree}
use Rattle.ssq_parse.specs.Expressions.{Reader, further, further_by, chain, prefixed, column_by, column_at, timestamp_at, interval_at, test_by, inside_at, bracketed_at, argument_at, aggregate_at, rows_by, count_at, worded_at, primary_by, primary_at, signed_at, product_at, sum_at, null_test_at, between_at, ranged, tested, compared, comparison_at, negation_at, conjunction_at, disjunction_at, expr_at, whole_at}
use Rattle.ssq_parse.specs.Operators.{operator_of, prefixes}
use Rattle.ssq_parse.specs.Reading.{Ahead, Made, Read, ◌>>=◌, before, behind, refused, is_keyword, is_symbol, keyword_at, with_place}
use Rattle.ssq_parse.specs.Trees.{leaf, unary, binary, null_test, between, risen, wrapped, ◌and_then◌}
use Rattle.ssq_parse.proofs.Local.{next, Local, Told, Unexpected, told_as, behind_told, skip_told, pure, nothing, made_local, skip, followed, maybe}
use Rattle.ssq_parse.proofs.LocalParts.{if_seen, keyword_local, symbol_local, name_local, span_then, moment_then, interval_asks, timestamp_asks}

-- ---- no tree lacks a token: it is too high, or it is made

and_then_made : {A B : Type 0} (made : Made A) (f : A → Made B) → Unexpected made → ((x : A) → Unexpected (f x)) → Unexpected (made and_then f)
and_then_made (Ok x) f never more = more x
and_then_made (Err refusal) f never more = never

risen_by : (at height : ℕ) (b : Bool) → Unexpected (if b then Ok (height + 1) else refused (Some at) TooDeep)
risen_by at height true = tt
risen_by at height false = tt

risen_made : {A : Type 0} (at height : ℕ) (f : ℕ → A) → Unexpected (risen at height and_then (λ h. Ok (f h)))
risen_made at height f = and_then_made (risen at height) (λ h. Ok (f h)) (risen_by at height (nat_lt height 64)) (λ h. tt)

pub binary_made : (op : BinaryOp) (at : ℕ) (left right : Tree) → Unexpected (binary op at left right)
unfolding binary
binary_made op at left right = risen_made at (max left.height right.height) _

pub null_test_made : (test : NullTest) (at : ℕ) (operand : Tree) → Unexpected (null_test test at operand)
unfolding null_test
null_test_made test at operand = risen_made at operand.height _

pub between_made : (at : ℕ) (operand low high : Tree) → Unexpected (between at operand low high)
unfolding between
between_made at operand low high = risen_made at (max (max operand.height low.height) high.height) _

unary_made : (op : UnaryOp) (at : ℕ) (operand : Tree) → Unexpected (unary op at operand)
unfolding unary
unary_made op at operand = risen_made at operand.height _

pub wrapped_made : (op : UnaryOp) (tokens : Ahead) (operand : Tree) → Unexpected (wrapped op tokens operand)
unfolding wrapped
wrapped_made op [] operand = tt
wrapped_made op (t ∷ ts) operand = and_then_made (wrapped op ts operand) (unary op t.start) (wrapped_made op ts operand) (unary_made op t.start)

-- ---- operators

further_local : (l : Level) (operand : Reader) → Local operand → (turns : ℕ) (left : Tree) → Local (further l operand turns left)
unfolding further
further_local l operand ol zero left = pure left
further_local l operand ol (suc turns) left =
    maybe (λ token. with_place token.start (operator_of l token.said)) (λ o. further_by o operand (further l operand turns) left) (pure left)
    (λ op. skip (followed ol (λ right. followed (made_local (binary op.0 op.1 left right) (binary_made op.0 op.1 left right)) (further_local l operand ol turns))))

chain_local : (l : Level) (operand : Reader) → Local operand → Local (chain l operand)
chain_local l operand ol = followed ol (further_local l operand ol 64)

module _ (is : Lexed → Bool) (operand : Reader) (ol : Local operand) where
  -- with so many tokens in front of the operand
  abbrev with_front : (Ahead → Tree → Made Tree) → ℕ → Reader
  with_front g k tokens = operand (drop k tokens) >>= (λ found. before (g (take k tokens) found.0) found.1)

  abbrev fronted : (Ahead → Tree → Made Tree) → Reader
  fronted g tokens = with_front g (prefix_len is tokens) tokens

  abbrev holds : Option Lexed → Bool
  holds None = false
  holds (Some t) = is t

  none_in_front : (tokens us : Ahead) → next tokens ≡ next us → holds (next tokens) ≡ false → prefix_len is us ≡ 0
  none_in_front tokens [] same none = refl
  none_in_front tokens (u ∷ us) same none = ap (λ b. if b then 1 + prefix_len is us else 0) (sym (ap holds same) ∙ none)

  one_in_front : (t : Lexed) (us : Ahead) → is t ≡ true → prefix_len is (t ∷ us) ≡ suc (prefix_len is us)
  one_in_front t us some = ap (λ b. if b then 1 + prefix_len is us else 0) some ∙ omega arith

  abbrev Never : (Ahead → Tree → Made Tree) → Type 0
  Never g = (ts : Ahead) (x : Tree) → Unexpected (g ts x)

  bare_local : (g : Ahead → Tree → Made Tree) → Never g → Local (with_front g 0)
  bare_local g never = followed ol (λ x. made_local (g [] x) (never [] x))

  bare_told : (g : Ahead → Tree → Made Tree) → Never g → (tokens : Ahead) → holds (next tokens) ≡ false → Told (fronted g) tokens (fronted g tokens)
  bare_told g never tokens none =
      let P : ℕ → Type 0 = λ k. Told (fronted g) tokens (with_front g k tokens) in
      subst P (sym (none_in_front tokens tokens refl none))
      (told_as (with_front g 0) (fronted g) tokens (with_front g 0 tokens) (λ us same. ap (λ k. with_front g k us) (none_in_front tokens us same none)) ((bare_local g never).told tokens))

  one_told : (g : Ahead → Tree → Made Tree) → Never g → (t : Lexed) (ts : Ahead) (b : Bool) → is t ≡ b
      → Told (fronted (λ us. g (t ∷ us))) ts (fronted (λ us. g (t ∷ us)) ts) → Told (fronted g) (t ∷ ts) (fronted g (t ∷ ts))
  one_told g never t ts false none more = bare_told g never (t ∷ ts) none
  one_told g never t ts true some more =
      let as_more : (us : Ahead) → fronted g (t ∷ us) ≡ fronted (λ vs. g (t ∷ vs)) us = λ us. ap (λ k. with_front g k (t ∷ us)) (one_in_front t us some) in
      let P : Read Tree → Type 0 = λ read. Told (fronted g) (t ∷ ts) read in
      subst P (sym (as_more ts)) (behind_told (fronted (λ us. g (t ∷ us))) (fronted g) t ts (fronted (λ us. g (t ∷ us)) ts) as_more more)

  fronted_told : (g : Ahead → Tree → Made Tree) → Never g → (tokens : Ahead) → Told (fronted g) tokens (fronted g tokens)
  fronted_told g never [] = bare_told g never [] refl
  fronted_told g never (t ∷ ts) = one_told g never t ts (is t) refl (fronted_told (λ us. g (t ∷ us)) (λ us. never (t ∷ us)) ts)

prefixed_local : (op : UnaryOp) (operand : Reader) → Local operand → Local (prefixed op operand)
prefixed_local op operand ol = record { told = fronted_told (prefixes op) operand ol (wrapped op) (wrapped_made op) }

-- ---- operands

column_local : (first : Ident) → Local (column_at first)
unfolding column_at
column_local first = if_seen (is_symbol mark.Dot) (column_by first) (pure _) (λ dot. skip (followed name_local (λ column. pure _)))

deep_or : (r : Reader) (bracket : ℕ) (b : Bool) → Local r → Local (λ tokens. if b then refused (Some bracket) TooDeep else r tokens)
deep_or r bracket true l = record { told = λ tokens. tt }
deep_or r bracket false l = l

module _ (depth : ℕ) (inner : Reader) (il : Local inner) where
  inside_local : (bracket : ℕ) → Local (inside_at depth inner bracket)
  unfolding inside_at
  inside_local bracket = deep_or inner bracket (depth == 0) il

  bracketed_local : (bracket : ℕ) → Local (bracketed_at depth inner bracket)
  unfolding bracketed_at
  bracketed_local bracket = followed (inside_local bracket) (λ found. followed (symbol_local mark.RightParen) (λ closed. pure _))

  argument_local : (f : Function) (at bracket : ℕ) → Local (argument_at depth inner f at bracket)
  unfolding argument_at
  argument_local f at bracket = followed (inside_local bracket) (λ found. followed (symbol_local mark.RightParen) (λ closed. pure _))

  aggregate_local : (f : Function) (at : ℕ) → Local (aggregate_at depth inner f at)
  unfolding aggregate_at
  aggregate_local f at = followed (symbol_local mark.LeftParen) (argument_local f at)

  count_local : (at : ℕ) → Local (count_at depth inner at)
  unfolding count_at
  count_local at = followed (symbol_local mark.LeftParen) (λ bracket. if_seen (is_symbol mark.Star) (rows_by depth inner at bracket) (argument_local function.Count at bracket)
      (λ star. deep_or _ bracket (depth == 0) (skip (followed (symbol_local mark.RightParen) (λ closed. pure _)))))

  module _ (t : Lexed) (ts : Ahead) where
    -- what stands after the first token
    abbrev Behind : Reader → Type 0
    Behind r = Told (λ us. r (drop 1 us)) (t ∷ ts) (r ts)

    none_begins : Behind (λ us. refused (Some t.start) Expected)
    none_begins = record { rest = t ∷ ts; at = refl; seen = record { taken = []; whole = refl; same = λ others is. refl }; bad = tt }

    worded_told : (k : Keyword) → t.said ≡ keyword k → Behind (worded_at depth inner k t.start)
    unfolding worded_at timestamp_at interval_at
    worded_told key.True is = skip_told _ (pure (record { value = e.Truth true t.start; at = t.start; height = 1 })) (t ∷ ts)
    worded_told key.False is = skip_told _ (pure (record { value = e.Truth false t.start; at = t.start; height = 1 })) (t ∷ ts)
    worded_told key.Timestamp is = moment_then (λ moment us. Ok (leaf t.start (e.Timestamp moment t.start), us)) (λ moment. pure _) t (timestamp_asks t is) ts
    worded_told key.Interval is = span_then (λ span us. Ok (leaf t.start (e.Interval span t.start), us)) (λ span. pure _) t (interval_asks t is) ts
    worded_told key.Count is = skip_told _ (count_local t.start) (t ∷ ts)
    worded_told key.Sum is = skip_told _ (aggregate_local function.Sum t.start) (t ∷ ts)
    worded_told key.Min is = skip_told _ (aggregate_local function.Min t.start) (t ∷ ts)
    worded_told key.Max is = skip_told _ (aggregate_local function.Max t.start) (t ∷ ts)
    worded_told other is = none_begins

    word_told : (word : Lexeme) → t.said ≡ word → Behind (primary_by depth inner word t.start)
    word_told (number n) is = skip_told _ (pure (record { value = e.Number n t.start; at = t.start; height = 1 })) (t ∷ ts)
    word_told (quoted text) is = skip_told _ (pure (record { value = e.Text text t.start; at = t.start; height = 1 })) (t ∷ ts)
    word_told (name text) is = skip_told _ (column_local (record { text = text; at = t.start })) (t ∷ ts)
    word_told (keyword k) is = worded_told k is
    word_told (symbol mark.LeftParen) is = skip_told _ (bracketed_local t.start) (t ∷ ts)
    word_told (symbol other) is = none_begins

  -- by the first token and those after it
  abbrev primary_from : Option Lexed → Reader
  primary_from None tokens = refused None Expected
  primary_from (Some t) tokens = primary_by depth inner t.said t.start (drop 1 tokens)

  primary_is : (tokens : Ahead) → primary_at depth inner tokens ≡ primary_from (next tokens) tokens
  unfolding primary_at
  primary_is [] = refl
  primary_is (t ∷ ts) = refl

  from_told : (tokens : Ahead) → Told (primary_from (next tokens)) tokens (primary_from (next tokens) tokens)
  from_told [] = record { rest = []; at = refl; seen = record { taken = []; whole = refl; same = λ others is. refl }; bad = tt }
  from_told (t ∷ ts) = word_told t ts t.said refl

  primary_told : (tokens : Ahead) → Told (primary_at depth inner) tokens (primary_at depth inner tokens)
  primary_told tokens =
      let P : Read Tree → Type 0 = λ read. Told (primary_at depth inner) tokens read in
      subst P (sym (primary_is tokens))
      (told_as (primary_from (next tokens)) (primary_at depth inner) tokens (primary_from (next tokens) tokens)
      (λ us same. primary_is us ∙ ap (λ o. primary_from o us) (sym same)) (from_told tokens))

  signed_local : Local (signed_at depth inner)
  unfolding signed_at
  signed_local = prefixed_local _ (primary_at depth inner) (record { told = primary_told })

  product_local : Local (product_at depth inner)
  unfolding product_at
  product_local = chain_local level.Product (signed_at depth inner) signed_local

  sum_local : Local (sum_at depth inner)
  unfolding sum_at
  sum_local = chain_local level.Sum (product_at depth inner) product_local

  null_test_local : (at : ℕ) (left : Tree) → Local (null_test_at depth inner at left)
  unfolding null_test_at
  null_test_local at left =
      let null : (o : Option ℕ) → Local (λ tokens. before (null_test (test_by o) at left) tokens >>= (λ tested. keyword_at key.Null tested.1 >>= (λ null. Ok (tested.0, null.1)))) =
      λ o. followed (made_local (null_test (test_by o) at left) (null_test_made (test_by o) at left)) (λ tested. followed (keyword_local key.Null) (λ null. pure _)) in
      if_seen (is_keyword key.Not) (λ o tokens. before (null_test (test_by o) at left) (behind o tokens) >>= (λ tested. keyword_at key.Null tested.1 >>= (λ null. Ok (tested.0, null.1))))
      (null None) (λ not. skip (null (Some not)))

  between_local : (at : ℕ) (left : Tree) → Local (between_at depth inner at left)
  unfolding between_at
  between_local at left = followed sum_local (λ low. followed (keyword_local key.And) (λ and. followed sum_local (λ high.
      made_local (between at left low high) (between_made at left low high))))

  compared_local : (left : Tree) (o : Option (BinaryOp × ℕ)) → Local (compared depth inner o left)
  compared_local left None =
      if_seen (is_keyword key.Is) (λ o. tested depth inner o left)
      (if_seen (is_keyword key.Between) (λ o. ranged depth inner o left) (pure left) (λ at. skip (between_local at left)))
      (λ at. skip (null_test_local at left))
  compared_local left (Some op) = skip (followed sum_local (λ right. made_local (binary op.0 op.1 left right) (binary_made op.0 op.1 left right)))

  comparison_local : Local (comparison_at depth inner)
  unfolding comparison_at
  comparison_local = followed sum_local (λ left. maybe (λ token. with_place token.start (operator_of level.Comparison token.said)) (λ o. compared depth inner o left)
      (compared_local left None) (λ op. compared_local left (Some op)))

  negation_local : Local (negation_at depth inner)
  unfolding negation_at
  negation_local = prefixed_local _ (comparison_at depth inner) comparison_local

  conjunction_local : Local (conjunction_at depth inner)
  unfolding conjunction_at
  conjunction_local = chain_local level.And (negation_at depth inner) negation_local

  disjunction_local : Local (disjunction_at depth inner)
  unfolding disjunction_at
  disjunction_local = chain_local level.Or (conjunction_at depth inner) conjunction_local

expr_local : (depth : ℕ) → Local (expr_at depth)
unfolding expr_at
expr_local zero = nothing
expr_local (suc depth) = disjunction_local depth (expr_at depth) (expr_local depth)

pub whole_local : Local whole_at
unfolding whole_at
whole_local = expr_local 65

-- none begins where no token is left
expr_none : (depth : ℕ) → expr_at (suc depth) [] ≡ refused None Expected
unfolding expr_at disjunction_at conjunction_at negation_at comparison_at sum_at product_at signed_at primary_at
expr_none depth = refl

pub whole_none : whole_at [] ≡ refused None Expected
unfolding whole_at
whole_none = expr_none 64
