-- Of rows that are kept those that begin with a side and a join key.
use Rattle.std.proofs.Common.{◌≡◌, ◌++◌, ℕ, [], ◌∷◌, List, Bool, true, false, refl, ap, sym, ◌∙◌, filter, length, map}
use Rattle.std.specs.Prelude.{◌==◌, ◌&&◌, if◌then◌else◌, not}
use Rattle.std.specs.Int.{w32, w64, to_be_bytes}
use Rattle.std.specs.List.{AllByRecursion, list_any}
use Rattle.std.proofs.lemmas.List.Elements.{All-weaker}
use Rattle.ssq_value.specs.Key.{IsSpelled, keys_of}
use Rattle.ssq_version.specs.State.{all_with, begins_with}
use Rattle.ssq_shape.specs.declared.bound.Bound.{Bound}
use Rattle.ssq_shape.specs.declared.bound.Joining.{Joining}
use Rattle.ssq_shape.specs.Evaluation.{is_null}
use Rattle.ssq_meaning.specs.FedRows.{FedRow}
use Rattle.ssq_meaning.specs.Fit.{IsFit}
use Rattle.ssq_meaning.specs.Group.{is_same}
use Rattle.ssq_meaning.specs.GroupLaws.{IsKeySpelled}
use Rattle.ssq_meaning.specs.Join.{is_left, row_key, row_value, side_byte}
use Rattle.ssq_meaning.specs.JoinLaws.{are_candidates}
use Rattle.ssq_meaning.proofs.Coding.{AreApart as KeysAreApart}
use Rattle.ssq_meaning.proofs.FitRows.{spelled}
use Rattle.ssq_meaning.proofs.Keys.{same_is}
use Rattle.ssq_meaning.proofs.Placing.{key_lengths}
use Rattle.ssq_join.specs.Meeting.{AreOthers, IsOther, entry_with}
use Rattle.ssq_join.specs.Steps.{IsKept}
use Rattle.ssq_join.specs.Telling.{candidates_of}
use Rattle.ssq_join.proofs.Prefixes.{candidates_begin, key_begins, near_by}

pub spelled_key : (query : Bound) (joining : Joining) (row : FedRow) → IsKept query joining row → IsKeySpelled (length joining.keys) row.key
spelled_key query joining row is = (All-weaker IsFit IsSpelled spelled row.key is.fit.key, key_lengths joining row is.own)

-- entries by their keys' beginnings
pub all_begin : (prefix : List ℕ) (was : FedRow → Bool) (rows : List FedRow) → all_with prefix (map (entry_with was) rows) ≡ map (entry_with was) (filter (λ row. begins_with prefix (row_key row)) rows)
all_begin prefix was [] = refl
all_begin prefix was (row ∷ rows) = by (begins_with prefix (row_key row)) (all_begin prefix was rows)
  where
    by : (b : Bool) → all_with prefix (map (entry_with was) rows) ≡ map (entry_with was) (filter (λ own. begins_with prefix (row_key own)) rows)
        → (if b then entry_with was row ∷ all_with prefix (map (entry_with was) rows) else all_with prefix (map (entry_with was) rows))
        ≡ map (entry_with was) (if b then row ∷ filter (λ own. begins_with prefix (row_key own)) rows else filter (λ own. begins_with prefix (row_key own)) rows)
    by true rest = ap (λ (l : List (List ℕ × List ℕ)). entry_with was row ∷ l) rest
    by false rest = rest

-- the bytes with which rows of the other side begin that have the key of a row
abbrev pub prefix : FedRow → List ℕ
prefix row = side_byte (not (is_left row.stream)) ∷ keys_of row.key

abbrev pub begins : (row other : FedRow) → Bool
begins row other = begins_with (prefix row) (row_key other)

abbrev place_of : FedRow → List ℕ
place_of row = to_be_bytes w32 row.epoch ++ (to_be_bytes w32 row.part ++ to_be_bytes w64 row.offset)

module _ (apart : KeysAreApart) (query : Bound) (joining : Joining) (row : FedRow) (own : IsKept query joining row) (none : list_any is_null row.key ≡ false) where
  pub is_other : (was : FedRow → Bool) (other : FedRow) → IsKept query joining other → begins row other ≡ true → IsOther query joining row other (was other) (row_key other) (row_value (was other) other)
  is_other was other kept has =
      record {
        side = sides (is_left row.stream) (is_left other.stream) (begins_with (keys_of row.key) (keys_of other.key ++ place_of other)) has;
        same = same_is row.key other.key (sym key_is ∙ keys (is_left row.stream) (is_left other.stream) (begins_with (keys_of row.key) (keys_of other.key ++ place_of other)) has);
        none = none;
        own = kept;
        at = refl;
        kept = refl;
      }
    where
      key_is : begins_with (keys_of row.key) (keys_of other.key ++ place_of other) ≡ is_same row.key other.key
      key_is = key_begins apart (length joining.keys) row.key other.key (place_of other) (spelled_key query joining row own) (spelled_key query joining other kept)

      sides : (r o b : Bool) → ((side_byte (not r) == side_byte o) && b) ≡ true → o ≡ not r
      sides true true b is = absurd cc
      sides true false b is = refl
      sides false true b is = refl
      sides false false b is = absurd cc

      keys : (r o b : Bool) → ((side_byte (not r) == side_byte o) && b) ≡ true → b ≡ true
      keys true true b is = absurd cc
      keys true false b is = is
      keys false true b is = is
      keys false false b is = absurd cc

  pub are_others : (was : FedRow → Bool) (rows : List FedRow) → AllByRecursion (IsKept query joining) rows → AreOthers query joining row was (filter (begins row) rows)
  are_others was [] each = tt
  are_others was (other ∷ rows) each = by (begins row other) refl (are_others was rows each.1)
    where
      by : (b : Bool) → begins row other ≡ b → AreOthers query joining row was (filter (begins row) rows) → AreOthers query joining row was (if b then other ∷ filter (begins row) rows else filter (begins row) rows)
      by true has rest = (is_other was other each.0 has, rest)
      by false has rest = rest

  -- no candidate is elsewhere
  pub same_candidates : (rows : List FedRow) → AllByRecursion (IsKept query joining) rows → candidates_of joining row (filter (begins row) rows) ≡ candidates_of joining row rows
  same_candidates [] each = refl
  same_candidates (other ∷ rows) each =
      by (begins row other) (are_candidates joining row other) (near_by apart (length joining.keys) joining (is_left row.stream) row other)
      (candidates_begin apart (length joining.keys) joining row other (spelled_key query joining row own) (spelled_key query joining other each.0) none) refl (same_candidates rows each.1)
    where
      by : (b c n : Bool) → c ≡ (b && n) → are_candidates joining row other ≡ c → candidates_of joining row (filter (begins row) rows) ≡ candidates_of joining row rows
          → candidates_of joining row (if b then other ∷ filter (begins row) rows else filter (begins row) rows) ≡ map (λ (own : FedRow). (row, own)) (if c then other ∷ filter (are_candidates joining row) rows else filter (are_candidates joining row) rows)
      by true true n is here rest = ap (λ d. map (λ (own : FedRow). (row, own)) (if d then other ∷ filter (are_candidates joining row) (filter (begins row) rows) else filter (are_candidates joining row) (filter (begins row) rows))) here ∙ ap (λ l. (row, other) ∷ l) rest
      by true false n is here rest = ap (λ d. map (λ (own : FedRow). (row, own)) (if d then other ∷ filter (are_candidates joining row) (filter (begins row) rows) else filter (are_candidates joining row) (filter (begins row) rows))) here ∙ rest
      by false true n is here rest = absurd cc
      by false false n is here rest = rest
