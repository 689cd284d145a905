-- Values that a query can keep, and that have their types, can stand in a sink file.
use Rattle.std.proofs.Common.{◌≡◌, ℤ, pos, negsuc, ◌^◌, ◌-◌, List, [], ◌∷◌, Option, Result, Ok, Err, true, int_le, leb-true}
use Rattle.std.specs.Prelude.{All, FitsSigned, IfOk, IfSome, length}
use Rattle.std.specs.Int.{w64}
use Rattle.std.proofs.lemmas.Bool.{and_parts}
use Rattle.std.proofs.lemmas.Str.{IsUtf8-from_is_utf8}
use Rattle.std.proofs.lemmas.List.Elements.{All-head, All-tail, recursion_from_All}
use Rattle.ssq_time.specs.Time.{IsStampTime, is_stamp_time}
use Rattle.ssq_value.specs.declared.column.ColType.{ColType}
use Rattle.ssq_value.specs.declared.value.Value.{Value}
use Rattle.ssq_value.specs.declared.value.Value.TheVariants.{Null, Int, Text, Time, Truth}
use Rattle.ssq_value.specs.Kind.{IsHeldBy}
use Rattle.ssq_shape.specs.declared.bound.Output.{Output}
use Rattle.ssq_shape.specs.Evaluation.{Evaluated, Overflow, and_then, evaluated, evaluated_with, is_bigint, longest}
use Rattle.ssq_shape.specs.Fit.{IsFit}
use Rattle.ssq_shape.specs.Kinds.{AreFoundIn, AreHeldBy}
use Rattle.ssq_shape.specs.Laws.{HoldsOfResults, value_has, value_held}
use Rattle.ssq_shape.specs.Plain.{projected}
use Rattle.ssq_json.specs.Stored.{AreStoredIn, IsStoredIn}
use Rattle.ssq_meaning.specs.Group.{group_items}
use Rattle.ssq_bind.specs.Typed.{HasItsKind}
use Rattle.ssq_json.proofs.Fitting.{at_most, within}
use Rattle.ssq_tables.specs.Shown.{kinds_of}

fit_stored : (kind : ColType) (value : Value) → IsHeldBy kind value → IsFit value → IsStoredIn kind value
fit_stored kind Null held fit = record { held = held; number = tt; time = tt; text = tt }
fit_stored kind (Int number) held fit = record { held = held; number = fit; time = tt; text = tt }
fit_stored kind (Text text) held fit = record { held = held; number = tt; time = tt; text = fit.1 }
fit_stored kind (Time time) held fit = record { held = held; number = tt; time = fit; text = tt }
fit_stored kind (Truth truth) held fit = record { held = held; number = tt; time = tt; text = tt }

-- one item more from the left
one_more : (first : Evaluated) (rest : Result (List Value) Overflow) (kind : ColType) (kinds : List ColType) → IfOk first (IsHeldBy kind) → IfOk first IsFit → IfOk rest (AreStoredIn kinds)
    → IfOk (and_then first (λ value. and_then rest (λ values. Ok (value ∷ values)))) (AreStoredIn (kind ∷ kinds))
one_more (Ok value) (Ok values) kind kinds held fit stored = (fit_stored kind value held fit, stored)
one_more (Ok value) (Err why) kind kinds held fit stored = tt
one_more (Err why) rest kind kinds held fit stored = tt

stamped : (t : ℤ) → is_stamp_time t ≡ true → IsStampTime t
stamped t is = let parts = and_parts _ _ is in (at_most _ t parts.0, at_most t _ parts.1)

pub counted : (n : ℤ) → is_bigint n ≡ true → FitsSigned w64 n
counted n is =
    let parts : (int_le (negsuc (2 ^ 63 - 1)) n ≡ true) × (int_le n (pos (2 ^ 63 - 1)) ≡ true) = and_parts _ _ is in
    within n (at_most (negsuc (2 ^ 63 - 1)) n parts.0) (at_most n (pos (2 ^ 63 - 1)) parts.1)

fits : HoldsOfResults IsFit
fits = record { null = tt; int = counted; text = λ t is. (leb-true (length t) longest (and_parts _ _ is).0, IsUtf8-from_is_utf8 t (and_parts _ _ is).1); time = stamped; truth = λ t. tt }

pub groups_stored : (aggregate_kinds kinds : List ColType) (aggregates : List (Option Value)) (key : List Value) (outputs : List Output) → AreFoundIn aggregate_kinds aggregates → All (λ aggregate. IfSome aggregate IsFit) aggregates
    → AreHeldBy kinds key → All IsFit key → All (HasItsKind aggregate_kinds kinds) outputs → IfOk (group_items outputs key aggregates) (AreStoredIn (kinds_of outputs))
unfolding group_items
groups_stored aggregate_kinds kinds aggregates key [] found fit held all typed = tt
groups_stored aggregate_kinds kinds aggregates key (output ∷ outputs) found fit held all typed =
    one_more (evaluated_with aggregates output.value key) (group_items outputs key aggregates) output.kind (kinds_of outputs)
    (value_held aggregate_kinds kinds aggregates key output.value output.kind found held (All-head (HasItsKind aggregate_kinds kinds) output outputs typed))
    (value_has IsFit fits aggregates (recursion_from_All (λ aggregate. IfSome aggregate IsFit) aggregates fit) key (recursion_from_All IsFit key all) output.value)
    (groups_stored aggregate_kinds kinds aggregates key outputs found fit held all (All-tail (HasItsKind aggregate_kinds kinds) output outputs typed))

pub rows_stored : (kinds : List ColType) (row : List Value) (outputs : List Output) → AreHeldBy kinds row → All IsFit row → All (HasItsKind [] kinds) outputs → IfOk (projected outputs row) (AreStoredIn (kinds_of outputs))
unfolding projected
rows_stored kinds row [] held all typed = tt
rows_stored kinds row (output ∷ outputs) held all typed =
    one_more (evaluated output.value row) (projected outputs row) output.kind (kinds_of outputs) (value_held [] kinds [] row output.value output.kind tt held (All-head (HasItsKind [] kinds) output outputs typed))
    (value_has IsFit fits [] tt row (recursion_from_All IsFit row all) output.value) (rows_stored kinds row outputs held all (All-tail (HasItsKind [] kinds) output outputs typed))
