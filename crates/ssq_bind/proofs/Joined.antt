-- ON, taken apart where it joins by AND.
use Rattle.std.proofs.Common.{◌≡◌, ◌∙◌, sym, refl, List, [], ◌∷◌, ◌++◌, append_assoc, Option, Some, None, Result, Ok, Err}
use Rattle.std.specs.Prelude.{OnOk}
use Rattle.std.specs.List.{flat_map}
use Rattle.std.proofs.lemmas.Grind.{flat_map-append}
use Rattle.std.proofs.lemmas.List.{append-nil}
use denote.Enum.Bare.{sameb}
use Rattle.ssq_ast.specs.contracts.expr.BinaryOp.{the_type as op_type}
use Rattle.ssq_ast.specs.declared.expr.BinaryOp.{BinaryOp}
use Rattle.ssq_ast.specs.declared.expr.BinaryOp.TheVariants as op
use Rattle.ssq_ast.specs.declared.expr.Expr.{Expr}
use Rattle.ssq_ast.specs.declared.expr.Expr.TheVariants as expr
use Rattle.ssq_ast.specs.Expression.{only}
use Rattle.ssq_shape.specs.declared.bound.KeyPair.{KeyPair}
use Rattle.ssq_check.specs.declared.scope.Scope.{Scope}
use Rattle.ssq_check.specs.Joined.{is_and}
use Rattle.ssq_bind.specs.declared.context.Context.{Context}
use Rattle.ssq_bind.specs.declared.join.Parts.{Parts}
use Rattle.ssq_bind.specs.Joins.{key_pair, time_bound, keys_in, bounds_in, rest_by, rest_in, parts_with}
use Rattle.ssq_bind.specs.Lists.{listed}
use Rattle.ssq_bind.specs.Value.{row_value}

both : {A B : Type 0} (f : A → List B) (old : List B) (xs ys : List A) → (old ++ flat_map f xs) ++ flat_map f ys ≡ old ++ flat_map f (xs ++ ys)
both f old xs ys = append_assoc old (flat_map f xs) (flat_map f ys) ∙ (λ i. old ++ sym (flat_map-append f xs ys) i)

-- some parts, and then others
pub parts_both : (context : Context) (parts : Parts) (xs ys : List Expr) → parts_with context (parts_with context parts xs) ys ≡ parts_with context parts (xs ++ ys)
parts_both context parts xs ys = λ i. record {
  keys = both (keys_in context) parts.keys xs ys i;
  bounds = both (bounds_in context) parts.bounds xs ys i;
  rest = both (rest_in context) parts.rest xs ys i;
}

-- the same outcome, told otherwise
pub ok_then : {A E T : Type 0} (r : Result A E) (now one other : T) → one ≡ other → OnOk r (now ≡ one) → OnOk r (now ≡ other)
ok_then (Ok a) now one other same is = is ∙ same
ok_then (Err e) now one other same is = tt

pub same_and : (o : BinaryOp) → sameb op_type o op.And ≡ is_and o
same_and op.Or = refl
same_and op.And = refl
same_and op.Equal = refl
same_and op.NotEqual = refl
same_and op.Less = refl
same_and op.AtMost = refl
same_and op.Greater = refl
same_and op.AtLeast = refl
same_and op.Add = refl
same_and op.Subtract = refl
same_and op.Concat = refl
same_and op.Multiply = refl
same_and op.Divide = refl
same_and op.Remainder = refl

-- what is a key equality is no bound
pair_is_no_bound : (scope : Scope) (e : Expr) (pair : KeyPair) → key_pair scope e ≡ Some pair → time_bound scope e ≡ None
unfolding key_pair time_bound
pair_is_no_bound scope (expr.Between' p (only a) at q (only b) r (only c)) pair is = absurd cc
pair_is_no_bound scope _ pair is = refl

-- a key equality, after those in front of it
pub pair_put : {A E : Type 0} (r : Result A E) (context : Context) (parts : Parts) (keys : List KeyPair) (e : Expr) (found : Option KeyPair) (pair : KeyPair) → found ≡ key_pair context.scope e → found ≡ Some pair →
    OnOk r (keys ≡ parts.keys ++ pair ∷ []) → OnOk r (record { keys = keys; bounds = parts.bounds; rest = parts.rest } ≡ parts_with context parts (e ∷ []))
pair_put (Ok a) context parts keys e found pair same is pushed =
    let own : key_pair context.scope e ≡ Some pair = sym same ∙ is in
    let other : time_bound context.scope e ≡ None = pair_is_no_bound context.scope e pair own in
    λ i. record {
      keys = (pushed ∙ (λ j. parts.keys ++ (listed (sym own j) ++ []))) i;
      bounds = (sym (append-nil parts.bounds) ∙ (λ j. parts.bounds ++ (listed (sym other j) ++ []))) i;
      rest = (sym (append-nil parts.rest) ∙ (λ j. parts.rest ++ (rest_by (sym own j) (sym other j) (row_value context e) ++ []))) i;
    }
pair_put (Err error) context parts keys e found pair same is pushed = tt
