-- One more candidate of a new row.
use Rattle.std.proofs.Common.{◌≡◌, ℕ, ◌∷◌, List, Option, Bool, true, false, Result, refl, ap, sym, ◌∙◌, subst, map}
use Rattle.std.specs.Prelude.{◌&&◌, ◌||◌, if◌then◌else◌}
use Rattle.std.specs.BTreeMap.{is_at}
use Rattle.std.specs.List.{list_any}
use Rattle.ssq_version.specs.State.{by_bytes}
use Rattle.ssq_shape.specs.declared.bound.Bound.{Bound}
use Rattle.ssq_shape.specs.declared.bound.Joining.{Joining}
use Rattle.ssq_shape.specs.Evaluation.{Overflow as Excess}
use Rattle.ssq_meaning.specs.FedRows.{FedRow}
use Rattle.ssq_meaning.specs.Join.{Considered, is_partner, row_key}
use Rattle.ssq_meaning.specs.Meaning.{Values}
use Rattle.ssq_step.specs.declared.shown.Shown.{Shown}
use Rattle.ssq_join.specs.Telling.{Meets, Pair, Tells, among, considered_of, touches}

pub meets_more : (query : Bound) (joining : Joining) (row other : FedRow) (pairs : List Pair) (found now : Shown) (before after : List (List ℕ)) (shown : Result (Option Values) Excess) (met : Bool)
    → ((all : List Considered) → Tells found all → Tells now (record { key = row.key; row = shown } ∷ all))
    → record { key = row.key; row = shown } ≡ considered_of query joining (row, other) → is_partner joining row other ≡ met
    → ((bytes : List ℕ) → among after bytes ≡ (if met then (is_at (by_bytes bytes) (row_key row) || (is_at (by_bytes bytes) (row_key other) || among before bytes)) else among before bytes))
    → Meets query joining pairs found before → Meets query joining ((row, other) ∷ pairs) now after
meets_more query joining row other pairs found now before after shown met told is partner knows meets = record {
  told = subst (λ (one : Considered). Tells now (one ∷ map (considered_of query joining) pairs)) is (told (map (considered_of query joining) pairs) meets.told);
  known = λ bytes.
      knows bytes
      ∙ ap (λ b. if met then (is_at (by_bytes bytes) (row_key row) || (is_at (by_bytes bytes) (row_key other) || b)) else b) (meets.known bytes)
      ∙ by met (is_at (by_bytes bytes) (row_key row)) (is_at (by_bytes bytes) (row_key other)) (list_any (touches joining bytes) pairs)
      ∙ ap (λ p. (p && (is_at (by_bytes bytes) (row_key row) || is_at (by_bytes bytes) (row_key other))) || list_any (touches joining bytes) pairs) (sym partner);
} where
  by : (m a b c : Bool) → (if m then (a || (b || c)) else c) ≡ ((m && (a || b)) || c)
  by true true b c = refl
  by true false b c = refl
  by false a b c = refl
