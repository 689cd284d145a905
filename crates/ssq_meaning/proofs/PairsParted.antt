-- What the partitions consider together is what all rows make an epoch consider.
use Rattle.std.proofs.Common.{◌≡◌, ◌≤◌, ◌++◌, [], ◌∷◌, ℕ, ℤ, List, Option, Bool, true, false, refl, ap, sym, ◌∙◌, subst, filter, map}
use Rattle.std.specs.Prelude.{◌==◌, ◌&&◌, ◌||◌, not, filter_map, if◌then◌else◌}
use Rattle.std.specs.List.{flat_map, list_any, range_with_len}
use Rattle.std.specs.List.Sorted.{IsPermutation}
use Rattle.std.proofs.lemmas.List.Elements.{filter-append, filter_map-append}
use Rattle.std.proofs.lemmas.Bool.{and_parts}
use Rattle.ssq_value.specs.Key.{keys_of}
use Rattle.ssq_route.specs.Place.{place_of}
use Rattle.ssq_shape.specs.declared.bound.Bound.{Bound}
use Rattle.ssq_shape.specs.declared.bound.Joining.{Joining}
use Rattle.ssq_shape.specs.Evaluation.{is_null}
use Rattle.ssq_meaning.specs.FedRows.{FedRow}
use Rattle.ssq_meaning.specs.Epochs.{bucket}
use Rattle.ssq_meaning.specs.Group.{is_same, least_key}
use Rattle.ssq_meaning.specs.Join.{Considered, alone_of, considered, due_rows, faulty_among, faulty_key, have_equal_keys, is_alone, is_candidate, is_due, is_left, is_near, is_on, is_outer_side, is_pair, is_partner, pair_of, pairs_of, pairs_with, row_of}
use Rattle.ssq_meaning.specs.Meaning.{Values, is_true_answer}
use Rattle.ssq_meaning.specs.Operator.{join}
use Rattle.ssq_meaning.proofs.Keys.{filter_turned, filter_within, same_is}
use Rattle.ssq_meaning.proofs.Leasts.{is_least, only_least}
use Rattle.ssq_meaning.proofs.Parted.{least_of_leasts}
use Rattle.ssq_meaning.proofs.Shuffled.{least_shuffled, shown_shuffled}
use Rattle.ssq_meaning.proofs.Together.{all_together, at_place}

-- ---- rows that meet have one key

pub same_keys : (joining : Joining) (left right : FedRow) → is_candidate joining left right ≡ true → left.key ≡ right.key
same_keys joining left right is =
    let parts = and_parts (is_left left.stream && not (is_left right.stream)) (have_equal_keys left right && is_near joining.bound left.time right.time) is in
    let equal = (and_parts (have_equal_keys left right) (is_near joining.bound left.time right.time) parts.1).0 in
    same_is left.key right.key (and_parts (is_same left.key right.key) (not (list_any is_null left.key)) equal).0

pub partner_keys : (joining : Joining) (row other : FedRow) → is_partner joining row other ≡ true → row.key ≡ other.key
partner_keys joining row other is = by (is_pair joining row other) refl is
  where
    by : (b : Bool) → is_pair joining row other ≡ b → (b || is_pair joining other row) ≡ true → row.key ≡ other.key
    by true first is = same_keys joining row other (and_parts (is_candidate joining row other) (is_true_answer (is_on joining row other)) first).0
    by false first is = sym (same_keys joining other row (and_parts (is_candidate joining other row) (is_true_answer (is_on joining other row)) is).0)

-- ---- tests

module _ {X : Type 0} where
  -- tests that agree where another one passes
  filter_there : (q f g : X → Bool) → ((x : X) → q x ≡ true → f x ≡ g x) → (xs : List X) → filter f (filter q xs) ≡ filter g (filter q xs)
  filter_there q f g agree [] = refl
  filter_there q f g agree (x ∷ xs) = by (q x) refl (filter_there q f g agree xs)
    where
      by : (b : Bool) → q x ≡ b → filter f (filter q xs) ≡ filter g (filter q xs) → filter f (if b then x ∷ filter q xs else filter q xs) ≡ filter g (if b then x ∷ filter q xs else filter q xs)
      by true is rest = λ i. if agree x is i then x ∷ rest i else rest i
      by false is rest = rest

  pub any_there : (p q : X → Bool) → ((x : X) → p x ≡ true → q x ≡ true) → (xs : List X) → list_any p (filter q xs) ≡ list_any p xs
  any_there p q within [] = refl
  any_there p q within (x ∷ xs) = by (q x) refl (p x) refl (any_there p q within xs)
    where
      by : (b : Bool) → q x ≡ b → (c : Bool) → p x ≡ c → list_any p (filter q xs) ≡ list_any p xs → list_any p (if b then x ∷ filter q xs else filter q xs) ≡ (p x || list_any p xs)
      by true is c has rest = ap (λ b. p x || b) rest
      by false is false has rest = rest ∙ ap (λ b. b || list_any p xs) (sym has)
      by false is true has rest = let no : false ≡ true = sym is ∙ within x has in absurd cc

module _ {X Y : Type 0} (key : X → Values) (f : Y → X) where
  mapped_there : (own : Y → Values) → ((y : Y) → key (f y) ≡ own y) → (partitions p : ℕ) (ys : List Y) → at_place key partitions p (map f ys) ≡ map f (at_place own partitions p ys)
  mapped_there own same partitions p [] = refl
  mapped_there own same partitions p (y ∷ ys) =
      ap (λ k. if place_of (keys_of k) partitions == p then f y ∷ at_place key partitions p (map f ys) else at_place key partitions p (map f ys)) (same y)
      ∙ by (place_of (keys_of (own y)) partitions == p) (mapped_there own same partitions p ys)
    where
      by : (b : Bool) → at_place key partitions p (map f ys) ≡ map f (at_place own partitions p ys)
          → (if b then f y ∷ at_place key partitions p (map f ys) else at_place key partitions p (map f ys)) ≡ map f (if b then y ∷ at_place own partitions p ys else at_place own partitions p ys)
      by true rest = ap (λ l. f y ∷ l) rest
      by false rest = rest

-- what is considered of this partition's keys
abbrev in_part : (partitions p : ℕ) → List Considered → List Considered
in_part partitions p all = at_place (λ (one : Considered). one.key) partitions p all

module _ (query : Bound) (joining : Joining) (partitions p : ℕ) where
  abbrev here : FedRow → Bool
  here row = place_of (keys_of row.key) partitions == p

  -- the candidates of a row of the partition, and of another
  own_pairs : (left : FedRow) (b : Bool) → here left ≡ b → (rights : List FedRow) → in_part partitions p (map (pair_of query joining left) rights) ≡ (if b then map (pair_of query joining left) rights else [])
  own_pairs left true is [] = refl
  own_pairs left false is [] = refl
  own_pairs left true is (right ∷ rights) =
      ap (λ b. if b then pair_of query joining left right ∷ in_part partitions p (map (pair_of query joining left) rights) else in_part partitions p (map (pair_of query joining left) rights)) is
      ∙ ap (λ l. pair_of query joining left right ∷ l) (own_pairs left true is rights)
  own_pairs left false is (right ∷ rights) =
      ap (λ b. if b then pair_of query joining left right ∷ in_part partitions p (map (pair_of query joining left) rights) else in_part partitions p (map (pair_of query joining left) rights)) is
      ∙ own_pairs left false is rights

  with_there : (left : FedRow) → here left ≡ true → (rights : List FedRow) → pairs_with query joining left (bucket partitions p rights) ≡ pairs_with query joining left rights
  with_there left is rights =
      ap (map (pair_of query joining left))
      (filter_within (is_candidate joining left) here true (λ right meets. ap (λ key. place_of (keys_of key) partitions == p) (sym (same_keys joining left right meets)) ∙ is) rights)

  pairs_there : (lefts rights : List FedRow) → pairs_of query joining (bucket partitions p lefts) (bucket partitions p rights) ≡ in_part partitions p (pairs_of query joining lefts rights)
  pairs_there [] rights = refl
  pairs_there (left ∷ lefts) rights =
      by (here left) refl (pairs_there lefts rights)
      ∙ sym (filter-append (λ (one : Considered). place_of (keys_of one.key) partitions == p) (pairs_with query joining left rights) (pairs_of query joining lefts rights))
    where
      by : (b : Bool) → here left ≡ b → pairs_of query joining (bucket partitions p lefts) (bucket partitions p rights) ≡ in_part partitions p (pairs_of query joining lefts rights)
          → pairs_of query joining (if b then left ∷ bucket partitions p lefts else bucket partitions p lefts) (bucket partitions p rights)
          ≡ in_part partitions p (pairs_with query joining left rights) ++ in_part partitions p (pairs_of query joining lefts rights)
      by true is rest =
          λ i. (with_there left is rights ∙ sym (own_pairs left true is (filter (is_candidate joining left) rights))) i ++ rest i
      by false is rest = rest ∙ ap (λ l. l ++ in_part partitions p (pairs_of query joining lefts rights)) (sym (own_pairs left false is (filter (is_candidate joining left) rights)))

  -- the rows without a partner
  alone_there : (rows : List FedRow) (row : FedRow) → here row ≡ true → is_alone joining (bucket partitions p rows) row ≡ is_alone joining rows row
  alone_there rows row is =
      ap (λ b. is_outer_side joining.kind (is_left row.stream) && not b)
      (any_there (is_partner joining row) here (λ other meets. ap (λ key. place_of (keys_of key) partitions == p) (sym (partner_keys joining row other meets)) ∙ is) rows)

  due_there : (rows : List FedRow) (before now : Option ℤ) → due_rows joining (bucket partitions p rows) before now ≡ bucket partitions p (due_rows joining rows before now)
  due_there rows before now =
      filter_there here (λ row. is_due joining before now row && is_alone joining (bucket partitions p rows) row) (λ row. is_due joining before now row && is_alone joining rows row)
      (λ row is. ap (λ b. is_due joining before now row && b) (alone_there rows row is)) rows
      ∙ filter_turned (λ row. is_due joining before now row && is_alone joining rows row) here rows

  pub considered_there : (old new : List FedRow) (before now : Option ℤ)
      → considered query joining (bucket partitions p old) (bucket partitions p new) before now ≡ in_part partitions p (considered query joining old new before now)
  considered_there old new before now =
      let both : bucket partitions p old ++ bucket partitions p new ≡ bucket partitions p (old ++ new) = sym (filter-append here old new) in
      let first = pairs_of query joining old new in
      let second = pairs_of query joining new (old ++ new) in
      let due = due_rows joining (old ++ new) before now in
      let test : Considered → Bool = λ one. place_of (keys_of one.key) partitions == p in
      (λ i. (pairs_there old new i ++ (ap (λ rows. pairs_of query joining (bucket partitions p new) rows) both ∙ pairs_there new (old ++ new)) i)
      ++ (ap (λ rows. map (alone_of query) (due_rows joining rows before now)) both ∙ ap (map (alone_of query)) (due_there (old ++ new) before now)
      ∙ sym (mapped_there (λ (one : Considered). one.key) (alone_of query) (λ (row : FedRow). row.key) (λ row. refl) partitions p due)) i)
      ∙ ap (λ l. l ++ in_part partitions p (map (alone_of query) due)) (sym (filter-append test first second))
      ∙ sym (filter-append test (first ++ second) (map (alone_of query) due))

-- ---- all partitions

shown_each : {X : Type 0} (f : X → Option Values) (g h : ℕ → List X) → ((p : ℕ) → g p ≡ h p) → (ps : List ℕ) → flat_map (λ p. filter_map f (g p)) ps ≡ filter_map f (flat_map h ps)
shown_each f g h same [] = refl
shown_each f g h same (p ∷ ps) = (λ i. filter_map f (same p i) ++ shown_each f g h same ps i) ∙ sym (filter_map-append f (h p) (flat_map h ps))

module _ (partitions : ℕ) (some : 1 ≤ partitions) (query : Bound) (joining : Joining) (old new : List FedRow) (before now : Option ℤ) where
  abbrev own : ℕ → List Considered
  own p = considered query joining (bucket partitions p old) (bucket partitions p new) before now

  abbrev parts : List Considered
  parts = flat_map (λ p. in_part partitions p (considered query joining old new before now)) (range_with_len 0 partitions)

  all_parts : IsPermutation parts (considered query joining old new before now)
  all_parts = all_together (λ (one : Considered). one.key) partitions some (considered query joining old new before now)

  each : (f : Considered → Option Values) → flat_map (λ p. filter_map f (own p)) (range_with_len 0 partitions) ≡ filter_map f parts
  each f =
      shown_each f own (λ p. in_part partitions p (considered query joining old new before now)) (λ p. considered_there query joining partitions p old new before now) (range_with_len 0 partitions)

  pub pairs_parted : IsPermutation (flat_map (λ p. (join query joining).added (bucket partitions p old) (bucket partitions p new) before now) (range_with_len 0 partitions)) ((join query joining).added old new before now)
  pairs_parted =
      subst (λ l. IsPermutation l ((join query joining).added old new before now)) (sym (each row_of))
      (shown_shuffled row_of parts (considered query joining old new before now) all_parts)

  pub fault_joined : least_key (filter_map (λ p. (join query joining).fault (bucket partitions p old) (bucket partitions p new) before now) (range_with_len 0 partitions)) ≡ (join query joining).fault old new before now
  fault_joined =
      let faulty : ℕ → List Values = λ p. faulty_among (own p) in
      only_least (flat_map faulty (range_with_len 0 partitions)) _ _ (least_of_leasts faulty (range_with_len 0 partitions)) (is_least (flat_map faulty (range_with_len 0 partitions)))
      ∙ ap least_key (each faulty_key)
      ∙ least_shuffled faulty_key parts (considered query joining old new before now) all_parts
