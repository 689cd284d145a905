-- The bytes with which the rows of a side begin that have a join key.
use Rattle.std.proofs.Common.{◌≡◌, ◌++◌, ℕ, [], ◌∷◌, List, Bool, true, false, refl, ap, sym, ◌∙◌, arith}
use Rattle.std.specs.Prelude.{◌==◌, ◌&&◌, ◌||◌, not}
use Rattle.std.specs.List.{list_any}
use Rattle.std.specs.Int.{w32, w64, to_be_bytes}
use Rattle.std.proofs.lemmas.Bool.Decides.{nat_tests}
use mathlib.Core.Bool.{or-false}
use Rattle.ssq_value.specs.Key.{keys_of}
use Rattle.ssq_version.specs.State.{begins_with}
use Rattle.ssq_shape.specs.declared.bound.Joining.{Joining}
use Rattle.ssq_shape.specs.Evaluation.{is_null}
use Rattle.ssq_meaning.specs.FedRows.{FedRow}
use Rattle.ssq_meaning.specs.Group.{is_same}
use Rattle.ssq_meaning.specs.GroupLaws.{IsKeySpelled}
use Rattle.ssq_meaning.specs.Join.{is_left, is_near, row_key, side_byte}
use Rattle.ssq_meaning.specs.JoinLaws.{are_candidates}
use Rattle.ssq_meaning.specs.Meaning.{Values}
use Rattle.ssq_meaning.proofs.Coding.{AreApart as KeysAreApart}
use Rattle.ssq_meaning.proofs.Keys.{same_back, same_is, same_itself}
use Rattle.ssq_version.proofs.Prefixes.{same_number}

-- ---- beginnings

pub begins_itself : (prefix rest : List ℕ) → begins_with prefix (prefix ++ rest) ≡ true
begins_itself [] rest = refl
begins_itself (x ∷ prefix) rest = (λ i. same_number x i && begins_itself prefix rest i)

pub begins_rest : (prefix key : List ℕ) → begins_with prefix key ≡ true → (rest : List ℕ) × (key ≡ prefix ++ rest)
begins_rest [] key is = (key, refl)
begins_rest (x ∷ prefix) [] is = absurd cc
begins_rest (x ∷ prefix) (y ∷ key) is = by (x == y) refl is (begins_rest prefix key)
  where
    by : (b : Bool) → (x == y) ≡ b → (b && begins_with prefix key) ≡ true → (begins_with prefix key ≡ true → (rest : List ℕ) × (key ≡ prefix ++ rest)) → (rest : List ℕ) × (y ∷ key ≡ x ∷ (prefix ++ rest))
    by false apart has next = absurd cc
    by true same has next =
        let found = next has in
        let one : y ≡ x = grind (arith, nat_tests, same) in
        (found.0, λ i. one i ∷ found.1 i)

module _ (apart : KeysAreApart) (count : ℕ) where
  -- after its side a row's bytes begin with those of a key exactly where it has that key
  pub key_begins : (key own : Values) (place : List ℕ) → IsKeySpelled count key → IsKeySpelled count own → begins_with (keys_of key) (keys_of own ++ place) ≡ is_same key own
  key_begins key own place one other = by (begins_with (keys_of key) (keys_of own ++ place)) (is_same key own) refl refl
    where
      by : (a b : Bool) → begins_with (keys_of key) (keys_of own ++ place) ≡ a → is_same key own ≡ b → begins_with (keys_of key) (keys_of own ++ place) ≡ is_same key own
      by true true begins same = begins ∙ sym same
      by false false begins same = begins ∙ sym same
      by true false begins same =
          let rest = begins_rest (keys_of key) (keys_of own ++ place) begins in
          let equal : own ≡ key = (apart own key place rest.0 (other.1 ∙ sym one.1) other.0 one.0 rest.1).0 in
          let no : true ≡ false = sym (same_itself key) ∙ ap (is_same key) (sym equal) ∙ same in absurd cc
      by false true begins same =
          let no : true ≡ false = sym (begins_itself (keys_of key) place) ∙ ap (λ k. begins_with (keys_of key) (keys_of k ++ place)) (same_is key own same) ∙ begins in absurd cc

  -- whether the left one of them and the right one are near
  abbrev pub near_by : Joining → (left : Bool) → (row other : FedRow) → Bool
  near_by joining true row other = is_near joining.bound row.time other.time
  near_by joining false row other = is_near joining.bound other.time row.time

  -- Of a row whose key has no NULL the candidates are, among the rows of the other side that begin with its key, those that are near.
  pub candidates_begin : (joining : Joining) (row other : FedRow) → IsKeySpelled count row.key → IsKeySpelled count other.key → list_any is_null row.key ≡ false
      → are_candidates joining row other
      ≡ (begins_with (side_byte (not (is_left row.stream)) ∷ keys_of row.key) (row_key other) && near_by joining (is_left row.stream) row other)
  candidates_begin joining row other one two none =
      by (is_left row.stream) (is_left other.stream) (is_same row.key other.key) (is_same other.key row.key) (list_any is_null other.key) (same_back other.key row.key) null_flipped
      ∙ ap (λ b. ((side_byte (not (is_left row.stream)) == side_byte (is_left other.stream)) && b) && near_by joining (is_left row.stream) row other)
      (sym (key_begins row.key other.key (to_be_bytes w32 other.epoch ++ (to_be_bytes w32 other.part ++ to_be_bytes w64 other.offset)) one two))
    where
      null_flipped : is_same row.key other.key ≡ true → list_any is_null other.key ≡ false
      null_flipped same = ap (list_any is_null) (sym (same_is row.key other.key same)) ∙ none

      by : (r o s t n : Bool) → t ≡ s → (s ≡ true → n ≡ false)
          → (((r && not o) && ((s && not (list_any is_null row.key)) && is_near joining.bound row.time other.time)) || ((o && not r) && ((t && not n) && is_near joining.bound other.time row.time)))
          ≡ (((side_byte (not r) == side_byte o) && s) && near_by joining r row other)
      by true true s t n flipped nulls = refl
      by false false s t n flipped nulls = refl
      by true false true t n flipped nulls = ap (λ b. (not b && is_near joining.bound row.time other.time) || false) none ∙ or-false (is_near joining.bound row.time other.time)
      by true false false t n flipped nulls = refl
      by false true true t n flipped nulls = (λ i. (flipped i && not (nulls refl i)) && is_near joining.bound other.time row.time)
      by false true false t n flipped nulls = ap (λ b. (b && not n) && is_near joining.bound other.time row.time) flipped
