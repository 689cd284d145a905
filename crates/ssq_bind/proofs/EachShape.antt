-- What holds of each of the shapes that a query may have holds of the one that it has.
use Rattle.std.proofs.Common.{◌≡◌, subst, refl, Bool, true, false, map, Option, Some, None}
use Rattle.std.specs.Prelude.{if◌then◌else◌, IfSome}
use Rattle.ssq_shape.specs.declared.bound.Shape.{Shape}
use Rattle.ssq_shape.specs.declared.bound.Shape.TheVariants as shape
use Rattle.ssq_ast.specs.declared.query.Deduplicate.{Deduplicate}
use Rattle.ssq_ast.specs.declared.query.Join.{Join}
use Rattle.ssq_ast.specs.declared.query.Query.{Query}
use Rattle.ssq_check.specs.Shown.{is_group}
use Rattle.ssq_bind.specs.Bound.{context_of, grouping_of, kept_by, shape_of}
use Rattle.ssq_bind.specs.Joins.{joining_of}
use Rattle.ssq_bind.specs.Shapes.{bare_index}

pub if_some_at : {A : Type 0} (P : A → Type 0) (o : Option A) (x : A) → IfSome o P → o ≡ Some x → P x
if_some_at P o x holds is = let all : IfSome (Some x) P = subst (λ o. IfSome o P) is holds in all

pub shape_has : (P : Shape → Type 0) (query : Query)
    → (is_group query ≡ true → P (shape.Group (grouping_of query)))
    → ((join : Join) → query.select.join ≡ Some join → P (shape.Join (joining_of (context_of query) join)))
    → ((own : Deduplicate) → query.select.join ≡ None → query.select.deduplicate ≡ Some own → P (shape.Dedup (map (bare_index (context_of query).scope) own.columns)))
    → (query.select.join ≡ None → P shape.Plain)
    → P (shape_of query)
unfolding shape_of
shape_has P query groups joins repeats plain = chosen (is_group query) groups (kept query.select.join query.select.deduplicate joins repeats plain)
  where
    kept : (join : Option Join) (deduplicate : Option Deduplicate)
        → ((own : Join) → join ≡ Some own → P (shape.Join (joining_of (context_of query) own)))
        → ((own : Deduplicate) → join ≡ None → deduplicate ≡ Some own → P (shape.Dedup (map (bare_index (context_of query).scope) own.columns)))
        → (join ≡ None → P shape.Plain)
        → P (kept_by (context_of query) join deduplicate)
    kept (Some join) deduplicate joins repeats plain = joins join refl
    kept None (Some own) joins repeats plain = repeats own refl refl
    kept None None joins repeats plain = plain refl

    chosen : (b : Bool) → (b ≡ true → P (shape.Group (grouping_of query))) → P (kept_by (context_of query) query.select.join query.select.deduplicate)
        → P (if b then shape.Group (grouping_of query) else kept_by (context_of query) query.select.join query.select.deduplicate)
    chosen true groups kept = groups refl
    chosen false groups kept = kept
