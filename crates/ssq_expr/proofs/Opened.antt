-- What an expression is on a row, by what stands in its boxes.
use Rattle.std.proofs.Common.{◌≡◌, ◌∙◌, ℤ, List, Option, Ok, refl}
use Rattle.ssq_value.specs.declared.value.Value.{Value}
use Rattle.ssq_value.specs.declared.value.Value.TheVariants.{Truth}
use Rattle.ssq_shape.specs.declared.typed.Arithmetic.{Arithmetic}
use Rattle.ssq_shape.specs.declared.typed.Comparison.{Comparison}
use Rattle.ssq_shape.specs.declared.typed.Comparison.TheVariants.{AtMost, AtLeast}
use Rattle.ssq_shape.specs.declared.typed.Typed.{Typed}
use Rattle.ssq_shape.specs.declared.typed.Typed.TheViews as view
use Rattle.ssq_shape.specs.Boxes.{negated_is, not_is, is_null_is, arithmetic_is, shifted_is, joined_is, compared_is, between_is, and_is, or_is}
use Rattle.ssq_shape.specs.Evaluation.{and_then, number_in, time_in, text_in, truth_in, truth_value, truth_of, is_null, negated, negation, arithmetic, shifted, joined, compared, conjunction, disjunction, evaluated_with}

-- the operands as the code has them, which are those in the boxes
module _ (aggregates : List (Option Value)) (own : Typed) (row : List Value) where
  pub negated_opened : (x x' : Typed) → own ≡ view.Negated x → x' ≡ x → evaluated_with aggregates own row ≡ and_then (evaluated_with aggregates x' row) (λ value. negated (number_in value))
  unfolding evaluated_with
  negated_opened x x' is same = rw (is, same, negated_is x) refl

  pub not_opened : (x x' : Typed) → own ≡ view.Not x → x' ≡ x → evaluated_with aggregates own row ≡ and_then (evaluated_with aggregates x' row) (λ value. Ok (truth_value (negation (truth_in value))))
  unfolding evaluated_with
  not_opened x x' is same = rw (is, same, not_is x) refl

  pub is_null_opened : (x x' : Typed) → own ≡ view.IsNull x → x' ≡ x → evaluated_with aggregates own row ≡ and_then (evaluated_with aggregates x' row) (λ value. Ok (Truth (is_null value)))
  unfolding evaluated_with
  is_null_opened x x' is same = rw (is, same, is_null_is x) refl

  pub arithmetic_opened : (op : Arithmetic) (a a' b b' : Typed) → own ≡ view.Arithmetic op a b → a' ≡ a → b' ≡ b → evaluated_with aggregates own row ≡ and_then (evaluated_with aggregates a' row) (λ left. and_then (evaluated_with aggregates b' row) (λ right. arithmetic op (number_in left) (number_in right)))
  unfolding evaluated_with
  arithmetic_opened op a a' b b' is left right = rw (is, left, right, arithmetic_is op a b) refl

  pub shifted_opened : (x x' : Typed) (by : ℤ) → own ≡ view.Shifted x by → x' ≡ x → evaluated_with aggregates own row ≡ and_then (evaluated_with aggregates x' row) (λ value. shifted (time_in value) by)
  unfolding evaluated_with
  shifted_opened x x' by is same = rw (is, same, shifted_is x by) refl

  pub joined_opened : (a a' b b' : Typed) → own ≡ view.Joined a b → a' ≡ a → b' ≡ b → evaluated_with aggregates own row ≡ and_then (evaluated_with aggregates a' row) (λ left. and_then (evaluated_with aggregates b' row) (λ right. joined (text_in left) (text_in right)))
  unfolding evaluated_with
  joined_opened a a' b b' is left right = rw (is, left, right, joined_is a b) refl

  pub compared_opened : (comparison : Comparison) (a a' b b' : Typed) → own ≡ view.Compared comparison a b → a' ≡ a → b' ≡ b → evaluated_with aggregates own row ≡ and_then (evaluated_with aggregates a' row) (λ left. and_then (evaluated_with aggregates b' row) (λ right. Ok (truth_value (compared comparison left right))))
  unfolding evaluated_with
  compared_opened comparison a a' b b' is left right = rw (is, left, right, compared_is comparison a b) refl

  pub between_opened : (a a' b b' c c' : Typed) → own ≡ view.Between a b c → a' ≡ a → b' ≡ b → c' ≡ c → evaluated_with aggregates own row ≡ and_then (evaluated_with aggregates a' row) (λ value. and_then (evaluated_with aggregates b' row) (λ least. conjunction (compared AtLeast value least) (and_then (evaluated_with aggregates c' row) (λ most. Ok (compared AtMost value most)))))
  unfolding evaluated_with
  between_opened a a' b b' c c' is first second third = rw (is, first, second, third, between_is a b c) refl

  pub and_opened : (a a' b b' : Typed) → own ≡ view.And a b → a' ≡ a → b' ≡ b → evaluated_with aggregates own row ≡ and_then (evaluated_with aggregates a' row) (λ left. conjunction (truth_in left) (truth_of (evaluated_with aggregates b' row)))
  unfolding evaluated_with
  and_opened a a' b b' is left right = rw (is, left, right, and_is a b) refl

  pub or_opened : (a a' b b' : Typed) → own ≡ view.Or a b → a' ≡ a → b' ≡ b → evaluated_with aggregates own row ≡ and_then (evaluated_with aggregates a' row) (λ left. disjunction (truth_in left) (truth_of (evaluated_with aggregates b' row)))
  unfolding evaluated_with
  or_opened a a' b b' is left right = rw (is, left, right, or_is a b) refl

  -- operators on two operands that are known

  pub compared_known : (comparison : Comparison) (a b : Typed) (left right : Value) → own ≡ view.Compared comparison a b → evaluated_with aggregates a row ≡ Ok left → evaluated_with aggregates b row ≡ Ok right → evaluated_with aggregates own row ≡ Ok (truth_value (compared comparison left right))
  compared_known comparison a b left right is first second = compared_opened comparison a a b b is refl refl ∙ rw (first, second) refl

  pub arithmetic_known : (op : Arithmetic) (a b : Typed) (left right : Value) → own ≡ view.Arithmetic op a b → evaluated_with aggregates a row ≡ Ok left → evaluated_with aggregates b row ≡ Ok right → evaluated_with aggregates own row ≡ arithmetic op (number_in left) (number_in right)
  arithmetic_known op a b left right is first second = arithmetic_opened op a a b b is refl refl ∙ rw (first, second) refl
