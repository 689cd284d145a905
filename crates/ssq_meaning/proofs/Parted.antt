-- Groups partition by partition.
use Rattle.std.proofs.Common.{◌≡◌, ◌≤◌, ◌<◌, ◌+◌, ◌++◌, [], ◌∷◌, ℕ, zero, suc, ℤ, List, Option, Some, None, Bool, true, false, refl, ap, sym, ◌∙◌, subst, arith, filter, map}
use Rattle.std.specs.Prelude.{◌&&◌, ◌||◌, ◌==◌, if◌then◌else◌, filter_map, flat_map, option_and_then, is_err}
use Rattle.std.specs.List.{AllByRecursion, cons_option, range_with_len}
use Rattle.std.specs.List.Sorted.{IsPermutation}
use Rattle.std.specs.Result.{result_ok}
use Rattle.std.specs.Ordering.{is_gt}
use Rattle.std.proofs.lemmas.Bool.Decides.{nat_tests}
use Rattle.std.proofs.lemmas.Cmp.{upto, tied_itself}
use Rattle.std.proofs.lemmas.Nat.{mod_below}
use Rattle.std.proofs.lemmas.List.Elements.{filter-append, filter_map-append}
use Rattle.ssq_value.specs.Key.{keys_of}
use Rattle.ssq_value.specs.Order.{values_cmp}
use Rattle.ssq_value.specs.OrderLaws.{values_cmp_total}
use Rattle.ssq_route.specs.Place.{place_of, fnv_1a}
use Rattle.ssq_shape.specs.declared.bound.Bound.{Bound}
use Rattle.ssq_shape.specs.declared.bound.Grouping.{Grouping}
use Rattle.ssq_meaning.specs.FedRows.{FedRow}
use Rattle.ssq_meaning.specs.Epochs.{bucket}
use Rattle.ssq_meaning.specs.Group.{is_same, keys_in, has_key, members, group_row, row_of_key, key_overflows, is_closed, is_due, due_keys, lesser_key, least_key}
use Rattle.ssq_meaning.specs.GroupLaws.{times}
use Rattle.ssq_meaning.specs.Meaning.{Values}
use Rattle.ssq_meaning.specs.Operator.{group}
use Rattle.ssq_meaning.specs.Totals.{totals_of}
use Rattle.ssq_meaning.proofs.Bags.{same_bag, times-append}
use Rattle.ssq_meaning.proofs.Counted.{times_in}
use Rattle.ssq_meaning.proofs.Grouped.{keys_of_rows}
use Rattle.ssq_meaning.proofs.Keys.{same_is, All-by, All-distinct, times_passing}
use Rattle.ssq_meaning.proofs.Leasts.{IsLeastOf, is_least, only_least, as_often, turned}

module _ (partitions : ℕ) where
  place : Values → ℕ
  place key = place_of (keys_of key) partitions

  -- ---- the rows of a partition

  members_there : (p : ℕ) (key : Values) → (place key == p) ≡ true → (rows : List FedRow) → members (bucket partitions p rows) key ≡ members rows key
  unfolding place
  members_there p key there [] = refl
  members_there p key there (row ∷ rows) = by (place_of (keys_of row.key) partitions == p) (is_same key row.key) refl refl (members_there p key there rows)
    where
      by : (b s : Bool) → (place_of (keys_of row.key) partitions == p) ≡ b → is_same key row.key ≡ s → members (bucket partitions p rows) key ≡ members rows key
          → members (if b then row ∷ bucket partitions p rows else bucket partitions p rows) key
          ≡ map (λ (row : FedRow). row.values) (if s then row ∷ filter (λ row. is_same key row.key) rows else filter (λ row. is_same key row.key) rows)
      by true true here same rest =
          ap (λ s. map (λ (row : FedRow). row.values) (if s then row ∷ filter (λ row. is_same key row.key) (bucket partitions p rows) else filter (λ row. is_same key row.key) (bucket partitions p rows))) same
          ∙ ap (λ l. row.values ∷ l) rest
      by true false here same rest =
          ap (λ s. map (λ (row : FedRow). row.values) (if s then row ∷ filter (λ row. is_same key row.key) (bucket partitions p rows) else filter (λ row. is_same key row.key) (bucket partitions p rows))) same
          ∙ rest
      by false true here same rest =
          let no : true ≡ false = sym there ∙ ap (λ k. place_of (keys_of k) partitions == p) (same_is key row.key same) ∙ here in absurd cc
      by false false here same rest = rest

  has_there : (p : ℕ) (key : Values) (rows : List FedRow) → has_key (bucket partitions p rows) key ≡ ((place key == p) && has_key rows key)
  unfolding place
  has_there p key [] = by (place_of (keys_of key) partitions == p)
    where
      by : (b : Bool) → false ≡ (b && false)
      by true = refl
      by false = refl
  has_there p key (row ∷ rows) = by (place_of (keys_of row.key) partitions == p) (is_same key row.key) refl refl (has_there p key rows)
    where
      by : (b s : Bool) → (place_of (keys_of row.key) partitions == p) ≡ b → is_same key row.key ≡ s → has_key (bucket partitions p rows) key ≡ ((place_of (keys_of key) partitions == p) && has_key rows key)
          → has_key (if b then row ∷ bucket partitions p rows else bucket partitions p rows) key ≡ ((place_of (keys_of key) partitions == p) && (s || has_key rows key))
      by true true here same rest =
          let there : (place_of (keys_of key) partitions == p) ≡ true = ap (λ k. place_of (keys_of k) partitions == p) (same_is key row.key same) ∙ here in
          ap (λ s. s || has_key (bucket partitions p rows) key) same ∙ ap (λ b. b && true) (sym there)
      by true false here same rest = ap (λ s. s || has_key (bucket partitions p rows) key) same ∙ rest
      by false true here same rest =
          let away : (place_of (keys_of key) partitions == p) ≡ false = ap (λ k. place_of (keys_of k) partitions == p) (same_is key row.key same) ∙ here in
          rest ∙ (λ i. away i && has_key rows key) ∙ ap (λ b. b && true) (sym away)
      by false false here same rest = rest

  pub has_in : (p : ℕ) (key : Values) (rows : List FedRow) → has_key (bucket partitions p rows) key ≡ ((place_of (keys_of key) partitions == p) && has_key rows key)
  unfolding place
  has_in p key rows = has_there p key rows

  are_there : (p : ℕ) (rows : List FedRow) → AllByRecursion (λ row. (place row.key == p) ≡ true) (bucket partitions p rows)
  unfolding place
  are_there p [] = tt
  are_there p (row ∷ rows) = by (place_of (keys_of row.key) partitions == p) refl (are_there p rows)
    where
      by : (b : Bool) → (place_of (keys_of row.key) partitions == p) ≡ b → AllByRecursion (λ row. (place_of (keys_of row.key) partitions == p) ≡ true) (bucket partitions p rows)
          → AllByRecursion (λ row. (place_of (keys_of row.key) partitions == p) ≡ true) (if b then row ∷ bucket partitions p rows else bucket partitions p rows)
      by true is rest = (is, rest)
      by false is rest = rest

  module _ (query : Bound) (grouping : Grouping) (old new : List FedRow) (before now : Option ℤ) where
    due_in : ℕ → List Values
    due_in p = due_keys query grouping (bucket partitions p old) (bucket partitions p new) before now

    both_rows : (p : ℕ) → bucket partitions p old ++ bucket partitions p new ≡ bucket partitions p (old ++ new)
    both_rows p = sym (filter-append (λ row. place_of (keys_of row.key) partitions == p) old new)

    -- what a key of the partition has
    same_members : (p : ℕ) (key : Values) → (place key == p) ≡ true → members (bucket partitions p old ++ bucket partitions p new) key ≡ members (old ++ new) key
    same_members p key there = ap (λ rows. members rows key) (both_rows p) ∙ members_there p key there (old ++ new)

    same_row : (p : ℕ) (key : Values) → (place key == p) ≡ true → row_of_key query grouping (bucket partitions p old ++ bucket partitions p new) key ≡ row_of_key query grouping (old ++ new) key
    same_row p key there = ap (λ (rows : List Values). option_and_then (λ row. row) (result_ok (group_row query grouping key (totals_of grouping.aggregates rows)))) (same_members p key there)

    same_overflow : (p : ℕ) (key : Values) → (place key == p) ≡ true → key_overflows query grouping (bucket partitions p old ++ bucket partitions p new) key ≡ key_overflows query grouping (old ++ new) key
    same_overflow p key there = ap (λ (rows : List Values). is_err (group_row query grouping key (totals_of grouping.aggregates rows))) (same_members p key there)

    -- how often a key is due in a partition
    times_there : (p : ℕ) (key : Values) → times key (due_in p) ≡ (if place key == p then times key (due_keys query grouping old new before now) else 0)
    unfolding due_in
    times_there p key =
        times_passing key (λ key. is_due query.mode (is_closed query grouping before key) (is_closed query grouping now key) (has_key (bucket partitions p new) key)) (keys_in (bucket partitions p old ++ bucket partitions p new))
        ∙ ap (λ n. if is_due query.mode (is_closed query grouping before key) (is_closed query grouping now key) (has_key (bucket partitions p new) key) then n else 0)
        (ap (λ rows. times key (keys_in rows)) (both_rows p) ∙ times_in key (bucket partitions p (old ++ new)) ∙ ap (λ b. if b then 1 else 0) (has_there p key (old ++ new)))
        ∙ ap (λ h. if is_due query.mode (is_closed query grouping before key) (is_closed query grouping now key) h then (if ((place key == p) && has_key (old ++ new) key) then 1 else 0) else 0) (has_there p key new)
        ∙ by (place key == p)
        ∙ ap (λ n. if place key == p then n else 0)
        (ap (λ n. if is_due query.mode (is_closed query grouping before key) (is_closed query grouping now key) (has_key new key) then n else 0) (sym (times_in key (old ++ new)))
        ∙ sym (times_passing key (λ key. is_due query.mode (is_closed query grouping before key) (is_closed query grouping now key) (has_key new key)) (keys_in (old ++ new))))
      where
        none : (d : Bool) → ◌≡◌ {A = ℕ} (if d then 0 else 0) 0
        none true = refl
        none false = refl

        by : (b : Bool) → ◌≡◌ {A = ℕ} (if is_due query.mode (is_closed query grouping before key) (is_closed query grouping now key) (b && has_key new key) then (if (b && has_key (old ++ new) key) then 1 else 0) else 0)
            (if b then (if is_due query.mode (is_closed query grouping before key) (is_closed query grouping now key) (has_key new key) then (if has_key (old ++ new) key then 1 else 0) else 0) else 0)
        by true = refl
        by false = none (is_due query.mode (is_closed query grouping before key) (is_closed query grouping now key) false)

    due_there : (p : ℕ) → AllByRecursion (λ key. (place key == p) ≡ true) (due_in p)
    unfolding due_in
    due_there p =
        All-by (λ key. (place key == p) ≡ true) (λ key. is_due query.mode (is_closed query grouping before key) (is_closed query grouping now key) (has_key (bucket partitions p new) key)) (keys_in (bucket partitions p old ++ bucket partitions p new))
        (All-distinct (λ key. (place key == p) ≡ true) (map (λ (row : FedRow). row.key) (bucket partitions p old ++ bucket partitions p new))
        (keys_of_rows (λ key. (place key == p) ≡ true) (bucket partitions p old ++ bucket partitions p new)
        (subst (λ rows. AllByRecursion (λ (row : FedRow). (place row.key == p) ≡ true) rows) (sym (both_rows p)) (are_there p (old ++ new)))))

    all_due : ℕ → ℕ → List Values
    all_due from many = flat_map due_in (range_with_len from many)

    -- no partition after its own has a key
    passed : (key : Values) (from many : ℕ) → place key < from → times key (all_due from many) ≡ 0
    unfolding all_due
    passed key from zero less = refl
    passed key from (suc many) less =
        let other : (place key == from) ≡ false = grind (arith, nat_tests, less) in
        times-append key (due_in from) (all_due (from + 1) many)
        ∙ (λ i. (times_there from key ∙ ap (λ b. if b then times key (due_keys query grouping old new before now) else 0) other) i + passed key (from + 1) many (omega (arith, less)) i)
        ∙ omega arith

    met : (key : Values) (from many : ℕ) → from ≤ place key → place key < from + many → times key (all_due from many) ≡ times key (due_keys query grouping old new before now)
    unfolding all_due
    met key from zero low high = absurd (omega (arith, low, high))
    met key from (suc many) low high = times-append key (due_in from) (all_due (from + 1) many) ∙ by (met key (from + 1) many) (place key == from) refl
      where
        by : (from + 1 ≤ place key → place key < (from + 1) + many → times key (all_due (from + 1) many) ≡ times key (due_keys query grouping old new before now)) → (b : Bool) → (place key == from) ≡ b → times key (due_in from) + times key (all_due (from + 1) many) ≡ times key (due_keys query grouping old new before now)
        by rest true here =
            let one : place key ≡ from = grind (arith, nat_tests, here) in
            (λ i. (times_there from key ∙ ap (λ b. if b then times key (due_keys query grouping old new before now) else 0) here) i + passed key (from + 1) many (omega (arith, one)) i)
            ∙ omega arith
        by rest false other =
            let apart : from < place key = grind (arith, nat_tests, other, low) in
            (λ i. (times_there from key ∙ ap (λ b. if b then times key (due_keys query grouping old new before now) else 0) other) i + rest (omega (arith, apart)) (omega (arith, high)) i)
            ∙ omega arith

    agree : {B : Type 0} (f g : Values → Option B) (P : Values → Type 0) → ((key : Values) → P key → f key ≡ g key) → (keys : List Values) → AllByRecursion P keys → filter_map f keys ≡ filter_map g keys
    agree f g P same [] all = refl
    agree f g P same (key ∷ keys) all = λ i. cons_option (same key all.0 i) (agree f g P same keys all.1 i)

    agree_tests : (f g : Values → Bool) (P : Values → Type 0) → ((key : Values) → P key → f key ≡ g key) → (keys : List Values) → AllByRecursion P keys → filter f keys ≡ filter g keys
    agree_tests f g P same [] all = refl
    agree_tests f g P same (key ∷ keys) all = λ i. if same key all.0 i then key ∷ agree_tests f g P same keys all.1 i else agree_tests f g P same keys all.1 i

    -- ---- rows

    rows_from : (from many : ℕ) → flat_map (λ p. (group query grouping).added (bucket partitions p old) (bucket partitions p new) before now) (range_with_len from many)
        ≡ filter_map (row_of_key query grouping (old ++ new)) (all_due from many)
    unfolding all_due due_in
    rows_from from zero = refl
    rows_from from (suc many) =
        (λ i. agree (row_of_key query grouping (bucket partitions from old ++ bucket partitions from new)) (row_of_key query grouping (old ++ new)) (λ key. (place key == from) ≡ true) (same_row from) (due_in from) (due_there from) i
        ++ rows_from (from + 1) many i)
        ∙ sym (filter_map-append (row_of_key query grouping (old ++ new)) (due_in from) (all_due (from + 1) many))

    module _ (some : 1 ≤ partitions) where
      each_due : (key : Values) → times key (all_due 0 partitions) ≡ times key (due_keys query grouping old new before now)
      unfolding place
      each_due key = met key 0 partitions (omega arith) (let below = mod_below (fnv_1a (keys_of key)) partitions (omega (arith, some)) in omega (arith, below))

      pub rows_parted : IsPermutation (flat_map (λ p. (group query grouping).added (bucket partitions p old) (bucket partitions p new) before now) (range_with_len 0 partitions)) ((group query grouping).added old new before now)
      rows_parted =
          subst (λ l. IsPermutation l ((group query grouping).added old new before now)) (sym (rows_from 0 partitions))
          (same_bag (row_of_key query grouping (old ++ new)) (all_due 0 partitions) (due_keys query grouping old new before now) each_due)

    -- ---- the least key that overflows

    faulty : ℕ → List Values
    faulty p = filter (key_overflows query grouping (bucket partitions p old ++ bucket partitions p new)) (due_in p)

    faulty_from : (from many : ℕ) → flat_map faulty (range_with_len from many) ≡ filter (key_overflows query grouping (old ++ new)) (all_due from many)
    unfolding all_due faulty
    faulty_from from zero = refl
    faulty_from from (suc many) =
        (λ i. agree_tests (key_overflows query grouping (bucket partitions from old ++ bucket partitions from new)) (key_overflows query grouping (old ++ new)) (λ key. (place key == from) ≡ true) (same_overflow from) (due_in from) (due_there from) i
        ++ faulty_from (from + 1) many i)
        ∙ sym (filter-append (key_overflows query grouping (old ++ new)) (due_in from) (all_due (from + 1) many))

-- the least of two lists, one after the other
both_least : (xs ys : List Values) (k : Values) (o : Option Values) → IsLeastOf xs (Some k) → IsLeastOf ys o → IsLeastOf (xs ++ ys) (Some (lesser_key k o))
both_least xs ys k None least none = (
  least.0,
  times-append k xs ys ∙ (λ i. least.1 i + none k i) ∙ omega arith,
  λ x m there. least.2 x m (let a = times-append x xs ys in let b = none x in omega (arith, a, b, there)),
)
both_least xs ys k (Some y) left right = by (is_gt (values_cmp k y)) refl
  where
    either : (own : Values) → is_gt (values_cmp own k) ≡ false → is_gt (values_cmp own y) ≡ false → (x : Values) (m : ℕ) → times x (xs ++ ys) ≡ suc m → is_gt (values_cmp own x) ≡ false
    either own first second x m there = split (times x xs) refl
      where
        split : (n : ℕ) → times x xs ≡ n → is_gt (values_cmp own x) ≡ false
        split zero none = upto values_cmp_total own y x second (right.2 x m (let a = times-append x xs ys in omega (arith, a, none, there)))
        split (suc n) some = upto values_cmp_total own k x first (left.2 x n some)

    itself : (a : Values) → is_gt (values_cmp a a) ≡ false
    itself a = ap is_gt (tied_itself values_cmp_total a)

    by : (b : Bool) → is_gt (values_cmp k y) ≡ b → IsLeastOf (xs ++ ys) (Some (if b then y else k))
    by true above = (times y xs + right.0, times-append y xs ys ∙ ap (λ n. times y xs + n) right.1 ∙ omega arith, either y (turned k y above) (itself y))
    by false below = (left.0 + times k ys, times-append k xs ys ∙ ap (λ n. n + times k ys) left.1 ∙ omega arith, either k (itself k) below)

-- the least of the least of each is the least of all
pub least_of_leasts : (f : ℕ → List Values) (ps : List ℕ) → IsLeastOf (flat_map f ps) (least_key (filter_map (λ p. least_key (f p)) ps))
least_of_leasts f [] = λ x. refl
least_of_leasts f (p ∷ ps) = by (least_key (f p)) (is_least (f p)) (least_of_leasts f ps)
  where
    by : (o : Option Values) → IsLeastOf (f p) o → IsLeastOf (flat_map f ps) (least_key (filter_map (λ p. least_key (f p)) ps))
        → IsLeastOf (f p ++ flat_map f ps) (least_key (cons_option o (filter_map (λ p. least_key (f p)) ps)))
    by None none rest =
        as_often (flat_map f ps) (f p ++ flat_map f ps) (λ key. let a = times-append key (f p) (flat_map f ps) in let b = none key in omega (arith, a, b)) (least_key (filter_map (λ p. least_key (f p)) ps)) rest
    by (Some k) least rest = both_least (f p) (flat_map f ps) k (least_key (filter_map (λ p. least_key (f p)) ps)) least rest

pub fault_parted : (partitions : ℕ) → 1 ≤ partitions → (query : Bound) (grouping : Grouping) (old new : List FedRow) (before now : Option ℤ)
    → least_key (filter_map (λ p. (group query grouping).fault (bucket partitions p old) (bucket partitions p new) before now) (range_with_len 0 partitions)) ≡ (group query grouping).fault old new before now
unfolding faulty due_in
fault_parted partitions some query grouping old new before now =
    let all = filter (key_overflows query grouping (old ++ new)) (due_keys query grouping old new before now) in
    let leasts = least_of_leasts (faulty partitions query grouping old new before now) (range_with_len 0 partitions) in
    only_least all _ _ (as_often (flat_map (faulty partitions query grouping old new before now) (range_with_len 0 partitions)) all (λ key.
    ap (times key) (faulty_from partitions query grouping old new before now 0 partitions)
    ∙ times_passing key (key_overflows query grouping (old ++ new)) (all_due partitions query grouping old new before now 0 partitions)
    ∙ ap (λ n. if key_overflows query grouping (old ++ new) key then n else 0) (each_due partitions query grouping old new before now some key)
    ∙ sym (times_passing key (key_overflows query grouping (old ++ new)) (due_keys query grouping old new before now)))
    _ leasts) (is_least all)

pub all_parted : (partitions : ℕ) → 1 ≤ partitions → (query : Bound) (grouping : Grouping) (old new : List FedRow) (before now : Option ℤ)
    → IsPermutation (flat_map (λ p. (group query grouping).added (bucket partitions p old) (bucket partitions p new) before now) (range_with_len 0 partitions)) ((group query grouping).added old new before now)
all_parted partitions some query grouping old new before now = rows_parted partitions query grouping old new before now some
