-- What an expression is once its names are bound, by what its operands are.
use Rattle.std.proofs.Common.{◌≡◌, ◌∙◌, ap, refl, ℕ, ◌+◌, ℤ, List, ◌++◌, length, Option, Some, append_assoc, arith, Result, Ok, Err}
use Rattle.std.specs.Prelude.{OnOk, IfOk}
use Rattle.std.proofs.lemmas.List.{length-append}
use Rattle.ssq_shape.specs.declared.bound.Aggregate.{Aggregate}
use Rattle.ssq_shape.specs.declared.bound.Function.{Function as Called}
use Rattle.ssq_shape.specs.declared.typed.Typed.{Typed}
use Rattle.ssq_ast.specs.declared.expr.BinaryOp.{BinaryOp}
use Rattle.ssq_ast.specs.declared.expr.Expr.{Expr}
use Rattle.ssq_ast.specs.declared.expr.Expr.TheVariants as expr
use Rattle.ssq_ast.specs.declared.expr.Function.{Function}
use Rattle.ssq_ast.specs.Expression.{only}
use Rattle.ssq_check.specs.declared.scope.Within.{Within}
use Rattle.ssq_check.specs.declared.scope.Within.TheVariants as within
use Rattle.ssq_bind.specs.declared.context.Context.{Context}
use Rattle.ssq_bind.specs.Value.{binary_value, between_value, shift_of, shifted_or, function_of, given, count, value_of, aggregates_of, row_value}

length_both : {A : Type 0} (xs ys : List A) → length (xs ++ ys) ≡ length xs + length ys
length_both xs ys = length-append xs ys

regrouped : (a b c : ℕ) → a + b + c ≡ a + (b + c)
regrouped a b c = omega arith

pub on_ok : {A E : Type 0} (r : Result A E) (P : Type 0) → P → OnOk r P
on_ok (Ok a) P p = p
on_ok (Err e) P p = tt

pub found_both : {A : Type 0} (old mid new xs ys : List A) → mid ≡ old ++ xs → new ≡ mid ++ ys → new ≡ old ++ (xs ++ ys)
found_both old mid new xs ys left right = right ∙ (λ i. left i ++ ys) ∙ append_assoc old xs ys

pub found_three : {A : Type 0} (old first second new xs ys zs : List A) → first ≡ old ++ xs → second ≡ first ++ ys → new ≡ second ++ zs → new ≡ old ++ (xs ++ (ys ++ zs))
found_three old first second new xs ys zs one two three = found_both old first new xs (ys ++ zs) one (found_both first second new ys zs two three)

-- what a call made of one operand, by what the operand is
pub one_value : {E : Type 0} (r : Result Typed E) (f : Typed → Typed) (x x' : Typed) → x ≡ x' → IfOk r (λ t. t ≡ f x) → IfOk r (λ t. t ≡ f x')
one_value (Ok t) f x x' same is = is ∙ ap f same
one_value (Err e) f x x' same is = tt

-- an aggregate of an argument on rows
pub found_given : {E : Type 0} (r : Result Typed E) (context : Context) (w : Within) (new old : List Aggregate) (f : Function) (called : Called) (t : Typed) (x : Expr)
    → called ≡ function_of f → t ≡ row_value context x → OnOk r (new ≡ old ++ given w (record { function = called; argument = Some t }))
    → OnOk r (new ≡ old ++ given w (record { function = function_of f; argument = Some (row_value context x) }))
found_given (Ok a) context w new old f called t x same is found = found ∙ (λ i. old ++ given w (record { function = same i; argument = Some (is i) }))
found_given (Err e) context w new old f called t x same is found = tt

module _ (context : Context) where
  pub counted : (w : Within) (e : Expr) → length (aggregates_of context w e) ≡ count w e
  unfolding aggregates_of count
  counted within.Row (expr.CountRows at) = refl
  counted within.Group (expr.CountRows at) = refl
  counted within.Row (expr.Aggregate' f at p (only x)) = refl
  counted within.Group (expr.Aggregate' f at p (only x)) = refl
  counted w (expr.Unary' o at p (only x)) = counted w x
  counted w (expr.IsNull' p (only x) at test) = counted w x
  counted w (expr.Binary' left_at p (only a) o at right_at q (only b)) = length_both (aggregates_of context w a) (aggregates_of context w b) ∙ (λ i. counted w a i + counted w b i)
  counted w (expr.Between' p (only a) at q (only b) r (only c)) =
      length_both (aggregates_of context w a) (aggregates_of context w b ++ aggregates_of context w c)
      ∙ (λ i. counted w a i + (length_both (aggregates_of context w b) (aggregates_of context w c) ∙ (λ j. counted w b j + counted w c j)) i)
  counted w _ = refl

  module _ (w : Within) where
    -- how many were found once those of an expression stand after the others
    grown : (old mid : List Aggregate) (x : Expr) → mid ≡ old ++ aggregates_of context w x → length mid ≡ length old + count w x
    grown old mid x is = ap length is ∙ length_both old (aggregates_of context w x) ∙ (λ i. length old + counted w x i)

    -- what is made of two operands, or of the left one and a shift; the right one is after the aggregates of the left one
    pub two_values : (old mid : List Aggregate) (o : BinaryOp) (a b : Expr) (s : Option ℤ) (x y t : Typed) → mid ≡ old ++ aggregates_of context w a
        → s ≡ shift_of o b → x ≡ value_of context w (length old) a → y ≡ value_of context w (length mid) b → t ≡ shifted_or s x (binary_value o x y)
        → t ≡ shifted_or (shift_of o b) (value_of context w (length old) a) (binary_value o (value_of context w (length old) a) (value_of context w (length old + count w a) b))
    two_values old mid o a b s x y t more shift left right is =
        let behind : y ≡ value_of context w (length old + count w a) b = right ∙ (λ i. value_of context w (grown old mid a more i) b) in
        is ∙ (λ i. shifted_or (shift i) (left i) (binary_value o (left i) (behind i)))

    -- what is made of three operands
    pub three_values : (old first second : List Aggregate) (a b c : Expr) (x y z t : Typed) → first ≡ old ++ aggregates_of context w a → second ≡ first ++ aggregates_of context w b
        → x ≡ value_of context w (length old) a → y ≡ value_of context w (length first) b → z ≡ value_of context w (length second) c → t ≡ between_value x y z
        → t ≡ between_value (value_of context w (length old) a) (value_of context w (length old + count w a) b) (value_of context w (length old + (count w a + count w b)) c)
    three_values old first second a b c x y z t more most one two three is =
        let n : length first ≡ length old + count w a = grown old first a more in
        let m : length second ≡ length old + (count w a + count w b) = grown first second b most ∙ (λ i. n i + count w b) ∙ regrouped (length old) (count w a) (count w b) in
        let middle : y ≡ value_of context w (length old + count w a) b = two ∙ (λ i. value_of context w (n i) b) in
        let last : z ≡ value_of context w (length old + (count w a + count w b)) c = three ∙ (λ i. value_of context w (m i) c) in
        is ∙ (λ i. between_value (one i) (middle i) (last i))
