-- What entries say one after the other, the last one first.
use Rattle.std.proofs.Common.{◌≡◌, ◌++◌, [], ◌∷◌, ℕ, List, Option, Some, None, Bool, true, false, cond, refl, sym, ap, ◌∙◌}
use Rattle.std.specs.Prelude.{if◌then◌else◌}
use Rattle.std.specs.Option.{option_or}
use Rattle.std.specs.BTreeMap.{is_at}
use Rattle.ssq_version.specs.State.{Change, IsToldAt, by_bytes, last_at, last_first, value_at}
use Rattle.ssq_version.proofs.Values.{either_way}

pub one_more : {X : Type 0} (entries : List (List ℕ × X)) (entry : List ℕ × X) → last_first (entries ++ entry ∷ []) ≡ entry ∷ last_first entries
one_more [] entry = refl
one_more (first ∷ entries) entry = ap (λ others. others ++ first ∷ []) (one_more entries entry)

-- the first of two lists counts
value_of_both : {X : Type 0} (front back : List (List ℕ × X)) (key : List ℕ) → value_at (front ++ back) key ≡ option_or (value_at front key) (value_at back key)
value_of_both [] back key = refl
value_of_both {X} (entry ∷ front) back key = by (is_at (by_bytes key) entry.0) (value_of_both front back key)
  where
    by : (b : Bool) → value_at (front ++ back) key ≡ option_or (value_at front key) (value_at back key)
        → cond b (Some entry.1) (value_at (front ++ back) key) ≡ option_or (cond b (Some entry.1) (value_at front key)) (value_at back key)
    by true rest = refl
    by false rest = rest

pub last_counts : {X : Type 0} (entries : List (List ℕ × X)) (key : List ℕ) → last_at entries key ≡ value_at (last_first entries) key
last_counts [] key = refl
last_counts (entry ∷ entries) key =
    ap (λ o. option_or o (if is_at (by_bytes key) entry.0 then Some entry.1 else None)) (last_counts entries key) ∙ sym (value_of_both (last_first entries) (entry ∷ []) key)

-- one entry more says this of its key
pub told_next : (before after : List (List ℕ × Option (List ℕ))) (key : List ℕ) (value : Option (List ℕ)) → after ≡ before ++ (key, value) ∷ [] → IsToldAt key value (last_first before) (last_first after)
told_next before after key value pushed other =
    ap (λ (entries : Change). value_at (last_first entries) other) pushed ∙ ap (λ (entries : Change). value_at entries other) (one_more before (key, value))
    ∙ ap (λ (b : Bool). cond b (Some value) (value_at (last_first before) other)) (either_way other key)
