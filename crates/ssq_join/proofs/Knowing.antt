-- Bytes that are known, and one more.
use Rattle.std.proofs.Common.{◌≡◌, ℕ, [], ◌∷◌, List, Bool, true, false, refl, ap, sym, ◌∙◌}
use Rattle.std.specs.Prelude.{◌||◌}
use Rattle.std.specs.declared.cmp.Ordering.{Ordering}
use Rattle.std.specs.declared.cmp.Ordering.TheVariants.{Less, Equal, Greater}
use Rattle.std.specs.BTreeMap.{is_at}
use Rattle.std.specs.BTreeSet.{insert_key}
use Rattle.std.specs.Ordering.{match_ordering}
use Rattle.std.proofs.lemmas.Map.Lookups.{exact_bytes}
use Rattle.ssq_version.specs.State.{by_bytes}
use Rattle.ssq_version.proofs.Values.{by_case, one_key}
use Rattle.ssq_join.specs.Telling.{among}

pub among_inserted : (keys : List (List ℕ)) (key bytes : List ℕ) → among (insert_key by_bytes keys key) bytes ≡ (is_at (by_bytes bytes) key || among keys bytes)
among_inserted [] key bytes = refl
among_inserted (other ∷ keys) key bytes = by (by_bytes key other) refl (among_inserted keys key bytes)
  where
    again : (a b : Bool) → (a || b) ≡ (a || (a || b))
    again true b = refl
    again false b = refl

    turned : (a b c : Bool) → (a || (b || c)) ≡ (b || (a || c))
    turned true true c = refl
    turned true false c = refl
    turned false true c = refl
    turned false false c = refl

    by : (r : Ordering) → by_bytes key other ≡ r → among (insert_key by_bytes keys key) bytes ≡ (is_at (by_bytes bytes) key || among keys bytes)
        → among (match_ordering r (key ∷ other ∷ keys) (other ∷ keys) (other ∷ insert_key by_bytes keys key)) bytes ≡ (is_at (by_bytes bytes) key || (is_at (by_bytes bytes) other || among keys bytes))
    by Less is rest = refl
    by Equal is rest =
        again (is_at (by_bytes bytes) other) (among keys bytes) ∙ ap (λ (k : List ℕ). is_at (by_bytes bytes) k || (is_at (by_bytes bytes) other || among keys bytes)) (sym (exact_bytes key other is))
    by Greater is rest = ap (λ b. is_at (by_bytes bytes) other || b) rest ∙ turned (is_at (by_bytes bytes) other) (is_at (by_bytes bytes) key) (among keys bytes)

-- one that is there already
pub among_known : (keys : List (List ℕ)) (key bytes : List ℕ) → among keys key ≡ true → among keys bytes ≡ (is_at (by_bytes bytes) key || among keys bytes)
among_known keys key bytes has =
    by_case (is_at (by_bytes bytes) key)
    (λ at. ap (among keys) (one_key bytes key at) ∙ has ∙ sym (ap (λ b. b || among keys bytes) at))
    (λ apart. sym (ap (λ b. b || among keys bytes) apart))
