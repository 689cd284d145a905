-- Rows that are dealt, one after the other, and those that go to the groups of a row.
use Rattle.std.proofs.Common.{◌≡◌, ◌+◌, ◌-◌, ◌≤◌, ◌++◌, ℕ, ℤ, List, [], ◌∷◌, Option, Some, None, Result, Ok, Err, arith, refl, ap, ap₂, sym, ◌∙◌, subst, map, length, take, drop, append_assoc, length-append}
use Rattle.std.specs.Prelude.{All, IsOkAnd, IsSomeAnd, OnOk, slice_get, true}
use Rattle.std.specs.List.{flat_map}
use Rattle.std.proofs.lemmas.List.{append-nil, drop_all, map-append, map-id, take_all, take_more, take-append-le, drop-append-le}
use Rattle.std.proofs.lemmas.List.Concat.{flat_map-append}
use Rattle.std.proofs.lemmas.List.Elements.{All-nil, All-append, All-push}
use Rattle.std.proofs.lemmas.Option.{slice_get_within, get_or_from_slice_get}
use Rattle.ssq_value.specs.declared.value.Value.{Value}
use Rattle.ssq_shape.specs.declared.bound.GroupKey.{GroupKey}
use Rattle.ssq_shape.specs.declared.bound.Grouping.{Grouping}
use Rattle.ssq_shape.specs.declared.bound.Shape.TheVariants.{Dedup, Group}
use Rattle.ssq_shape.specs.Plain.{passes, shown}
use Rattle.ssq_shape.specs.Windows.{HasGroupWindows, HasWindowsBy}
use Rattle.ssq_meaning.specs.declared.place.KeyPlace.{KeyPlace}
use Rattle.ssq_meaning.specs.Dedup as repeats
use Rattle.ssq_meaning.specs.Dedup.{handed_to_dedup, key_in}
use Rattle.ssq_meaning.specs.FedRows.{FedRow}
use Rattle.ssq_meaning.specs.Fit.{IsFit, IsFitRow}
use Rattle.ssq_meaning.specs.Group.{arguments_of, closing_time, handed_to_groups, key_values, row_keys, member}
use Rattle.ssq_meaning.specs.Keyed.{key_time_by}
use Rattle.ssq_meaning.specs.Meaning.{Values}
use Rattle.ssq_meaning.specs.Placed.{placed_time}
use Rattle.ssq_feed.specs.declared.dealer.Origin.{Origin}
use Rattle.ssq_feed.specs.declared.query.Query.{Query}
use Rattle.ssq_feed.specs.Dealing.{Deals, IsLonger, from_origin, member_row, member_rows, placed_member}
use Rattle.ssq_feed.specs.Finding.{IsFoundFor, IsHandedBy}
use Rattle.ssq_feed.specs.Keys.{begun_with}
use Rattle.ssq_feed.specs.Rows.{dealt}

pub deals_none : (buckets : List (List FedRow)) → Deals buckets buckets []
deals_none buckets = record {
  len = refl;
  behind = λ before is. is ∙ ap (dealt (length buckets)) (sym (append-nil before));
  fit = All-nil IsFitRow;
}

pub deals_more : (first old new : List (List FedRow)) (rows more : List FedRow) → Deals first old rows → Deals old new more → Deals first new (rows ++ more)
deals_more first old new rows more one two =
    let P : ℕ → Type 0 = λ n. (before : List FedRow) → old ≡ dealt n before → new ≡ dealt n (before ++ more) in
    let behind : P (length first) = subst P one.len two.behind in
    record {
      len = two.len ∙ one.len;
      behind = λ before is. behind (before ++ rows) (one.behind before is) ∙ ap (dealt (length first)) (append_assoc before rows more);
      fit = All-append IsFitRow rows more one.fit two.fit;
    }

module _ (origin : Origin) (place : Option KeyPlace) (arguments : Values) (parts : List GroupKey) (key row : Values) where
  -- the rows that go to the groups whose keys go on with this value
  abbrev pub rows_with : Value → List FedRow
  rows_with value = member_rows origin place arguments (begun_with (key ++ value ∷ []) (row_keys parts row))

  keys_of_values : (values : List Value)
      → begun_with key (flat_map (λ value. map (λ rest. value ∷ rest) (row_keys parts row)) values)
      ≡ flat_map (λ value. begun_with (key ++ value ∷ []) (row_keys parts row)) values
  keys_of_values [] = refl
  keys_of_values (value ∷ values) =
      map-append (λ rest. key ++ rest) (map (λ rest. value ∷ rest) (row_keys parts row)) (flat_map (λ v. map (λ rest. v ∷ rest) (row_keys parts row)) values)
      ∙ ap (λ front. front ++ map (λ rest. key ++ rest) (flat_map (λ v. map (λ rest. v ∷ rest) (row_keys parts row)) values)) (one (row_keys parts row))
      ∙ ap (λ rest. begun_with (key ++ value ∷ []) (row_keys parts row) ++ rest) (keys_of_values values)
    where
      one : (rests : List Values) → map (λ rest. key ++ rest) (map (λ rest. value ∷ rest) rests) ≡ map (λ rest. (key ++ value ∷ []) ++ rest) rests
      one [] = refl
      one (rest ∷ rests) =
          ap (λ k. k ∷ map (λ r. key ++ r) (map (λ r. value ∷ r) rests)) (sym (append_assoc key (value ∷ []) rest)) ∙ ap (λ ks. ((key ++ value ∷ []) ++ rest) ∷ ks) (one rests)

  rows_of_keys : (f : Value → List Values) (values : List Value)
      → member_rows origin place arguments (flat_map f values) ≡ flat_map (λ value. member_rows origin place arguments (f value)) values
  rows_of_keys f [] = refl
  rows_of_keys f (value ∷ values) =
      ap (map (from_origin origin)) (map-append (placed_member place arguments) (f value) (flat_map f values))
      ∙ map-append (from_origin origin) (map (placed_member place arguments) (f value)) (map (placed_member place arguments) (flat_map f values))
      ∙ ap (λ rest. member_rows origin place arguments (f value) ++ rest) (rows_of_keys f values)

  -- a row goes to the groups whose keys go on with one of its values
  pub rows_of_part : (part : GroupKey)
      → member_rows origin place arguments (begun_with key (row_keys (part ∷ parts) row)) ≡ flat_map rows_with (key_values part row)
  unfolding row_keys
  rows_of_part part =
      ap (member_rows origin place arguments) (keys_of_values (key_values part row))
      ∙ rows_of_keys (λ value. begun_with (key ++ value ∷ []) (row_keys parts row)) (key_values part row)

  pub deals_value : (first old new : List (List FedRow)) (values : List Value) (nth : ℕ) (value : Value)
      → Deals first old (flat_map rows_with (take nth values)) → slice_get values nth ≡ Some value → Deals old new (rows_with value)
      → Deals first new (flat_map rows_with (take (nth + 1) values))
  deals_value first old new values nth value before there is =
      let P : List FedRow → Type 0 = Deals first new in
      let more : take (nth + 1) values ≡ take nth values ++ value ∷ [] =
      take_more values nth value (slice_get_within values nth value there) ∙ ap (λ v. take nth values ++ v ∷ []) (get_or_from_slice_get values nth value value there) in
      let rows : flat_map rows_with (take (nth + 1) values) ≡ flat_map rows_with (take nth values) ++ rows_with value =
      ap (flat_map rows_with) more ∙ flat_map-append rows_with (take nth values) (value ∷ [])
      ∙ ap (λ rest. flat_map rows_with (take nth values) ++ rest) (append-nil (rows_with value)) in
      subst P (sym rows) (deals_more first old new (flat_map rows_with (take nth values)) (rows_with value) before is)

  -- once they are dealt by each value that the row has for a part, they are by that part and those after it
  pub deals_part : (first new : List (List FedRow)) (part : GroupKey) (whole : List GroupKey) (values : List Value) (last count : ℕ) → whole ≡ part ∷ parts
      → values ≡ key_values part row → count ≡ length values → 1 ≤ count → last ≡ count - 1 → Deals first new (flat_map rows_with (take (last + 1) values))
      → Deals first new (member_rows origin place arguments (begun_with key (row_keys whole row)))
  deals_part first new part whole values last count whole_is values_are count_is some last_is deals =
      let P : List FedRow → Type 0 = Deals first new in
      let every : take (last + 1) values ≡ values = take_all (last + 1) values (omega (arith, count_is, some, last_is)) in
      subst P (ap (flat_map rows_with) (every ∙ values_are) ∙ sym (rows_of_part part)
      ∙ ap (λ (ps : List GroupKey). member_rows origin place arguments (begun_with key (row_keys ps row))) (sym whole_is)) deals

  -- no row is dealt by a part for which the row has no value
  pub deals_nothing : (buckets : List (List FedRow)) (part : GroupKey) (whole : List GroupKey) (values : List Value) (count : ℕ) → whole ≡ part ∷ parts
      → values ≡ key_values part row → count ≡ length values → (1 ≤ count → ⊥)
      → Deals buckets buckets (member_rows origin place arguments (begun_with key (row_keys whole row)))
  deals_nothing buckets part whole values count whole_is values_are count_is none =
      let P : List FedRow → Type 0 = Deals buckets buckets in
      let empty : values ≡ [] = none_of values (omega (arith, count_is, none)) in
      subst P (ap (flat_map rows_with) (sym empty ∙ values_are) ∙ sym (rows_of_part part)
      ∙ ap (λ (ps : List GroupKey). member_rows origin place arguments (begun_with key (row_keys ps row))) (sym whole_is)) (deals_none buckets)
    where
      none_of : (values : List Value) → length values ≡ 0 → values ≡ []
      none_of [] is = refl
      none_of (value ∷ values) is = absurd (omega (arith, is))

-- a key that has all its parts
pub rows_of_key : (origin : Origin) (place : Option KeyPlace) (arguments key row : Values) (parts : List GroupKey) → length parts ≡ 0
    → member_rows origin place arguments (begun_with key (row_keys parts row)) ≡ member_row origin place arguments key ∷ []
unfolding row_keys
rows_of_key origin place arguments key row [] is = ap (λ k. member_row origin place arguments k ∷ []) (append-nil key)
rows_of_key origin place arguments key row (part ∷ parts) is = absurd (omega (arith, is))

-- Cells, the arguments with a key after them, that go on with the nth of some values: the key does, and the arguments stay.
pub record GoesOn (arguments : ℕ) (values : List Value) (nth : ℕ) (cells longer : Values) : Type 0 where
  pub value : Value
  pub there : slice_get values nth ≡ Some value
  pub same : take arguments longer ≡ take arguments cells
  pub key : drop arguments longer ≡ drop arguments cells ++ value ∷ []
  pub within : arguments ≤ length longer
  pub fit : All IsFit longer

pub goes_on : (arguments : ℕ) (values : List Value) (nth : ℕ) (cells longer : Values) → arguments ≤ length cells → All IsFit cells → All IsFit values → IsLonger values nth cells longer
    → GoesOn arguments values nth cells longer
goes_on arguments values nth cells longer within all fits is = by_value (slice_get values nth) refl is where
  by_value : (o : Option Value) → slice_get values nth ≡ o → IsSomeAnd o (λ value. longer ≡ cells ++ value ∷ []) → GoesOn arguments values nth cells longer
  by_value None there is = absurd is
  by_value (Some value) there is =
      let Q : Values → Type 0 = All IsFit in
      let fit : IsFit value = subst IsFit (get_or_from_slice_get values nth value value there) (fits nth value (slice_get_within values nth value there)) in
      record {
        value = value;
        there = there;
        same = ap (take arguments) is ∙ take-append-le arguments cells (value ∷ []) within;
        key = ap (drop arguments) is ∙ drop-append-le arguments cells (value ∷ []) within;
        within = omega (arith, within, ap (λ (l : Values). length l) is, length-append cells (value ∷ []));
        fit = subst Q (sym is) (All-push IsFit cells value all fit);
      }

pub on_ok : {T E A B : Type 0} (r : Result T E) → OnOk r A → (A → B) → OnOk r B
on_ok (Ok x) a f = f a
on_ok (Err e) a f = a

-- ---- the time of a key

-- the time at the place is that which the key of a group has, or of DEDUPLICATE
pub group_time : (stream : ℕ) (query : Query) (grouping : Grouping) → IsFoundFor stream query → query.bound.now.shape ≡ Group grouping
    → (key : Values) → placed_time query.place key ≡ closing_time query.bound.now grouping key
group_time stream query grouping found is key = sym (found.time key) ∙ ap (λ shape. key_time_by shape query.bound.now key) is

pub repeat_time : (stream : ℕ) (query : Query) (columns : List ℕ) → IsFoundFor stream query → query.bound.now.shape ≡ Dedup columns
    → (key : Values) → placed_time query.place key ≡ repeats.closing_time query.bound.now columns key
repeat_time stream query columns found is key = sym (found.time key) ∙ ap (λ shape. key_time_by shape query.bound.now key) is

-- the windows of a grouping
pub windows_of : (stream : ℕ) (query : Query) (grouping : Grouping) → IsFoundFor stream query → query.bound.now.shape ≡ Group grouping → HasGroupWindows grouping
windows_of stream query grouping found is = subst HasWindowsBy is found.windows

-- the arguments of a row are dealt to each of its groups
pub groups_dealt : (origin : Origin) (query : Query) (grouping : Grouping) (row arguments : Values) (count : ℕ) (parts : List GroupKey) (old new : List (List FedRow))
    → IsHandedBy origin.stream query (Group grouping) row
    → passes query.bound.now.filter row ≡ Ok true → arguments_of grouping.aggregates row ≡ Ok arguments → count ≡ length arguments → parts ≡ grouping.keys
    → Deals old new (member_rows origin query.place (take count arguments) (begun_with (drop count arguments) (row_keys parts row)))
    → IsOkAnd (handed_to_groups query.bound.now grouping row) (λ rows. Deals old new (map (from_origin origin) rows))
unfolding handed_to_groups
groups_dealt origin query grouping row arguments count parts old new given passing are count_is parts_is deals =
    let P : List FedRow → Type 0 = Deals old new in
    let all : take count arguments ≡ arguments = take_all count arguments (omega (arith, count_is)) in
    let none : drop count arguments ≡ [] = drop_all count arguments (omega (arith, count_is)) in
    let keys : begun_with (drop count arguments) (row_keys parts row) ≡ row_keys grouping.keys row =
    ap (λ (front : Values). begun_with front (row_keys parts row)) none ∙ map-id (row_keys parts row) ∙ ap (λ (own : List GroupKey). row_keys own row) parts_is in
    let rows : member_rows origin query.place arguments (row_keys grouping.keys row) ≡ map (from_origin origin) (map (member query.bound.now grouping arguments) (row_keys grouping.keys row)) =
    λ i. map (from_origin origin) (map (λ key. record { key = key; time = group_time origin.stream query grouping given.found given.shape key i; values = arguments }) (row_keys grouping.keys row)) in
    rw (passing, are) (subst P (ap₂ (member_rows origin query.place) all keys ∙ rows) deals)

-- a row is dealt by its values in the columns
pub repeat_dealt : (origin : Origin) (query : Query) (columns : List ℕ) (row key values : Values) (time : Option ℤ) (old new : List (List FedRow))
    → IsHandedBy origin.stream query (Dedup columns) row
    → shown query.bound.now row ≡ Ok (Some values) → key ≡ key_in columns row → time ≡ placed_time query.place key
    → Deals old new (from_origin origin (record { key = key; time = time; values = values }) ∷ [])
    → IsOkAnd (handed_to_dedup query.bound.now columns row) (λ rows. Deals old new (map (from_origin origin) rows))
unfolding handed_to_dedup
repeat_dealt origin query columns row key values time old new given shown_is key_is time_is deals =
    let P : List FedRow → Type 0 = Deals old new in
    let one : Values → Option ℤ → List FedRow = λ key time. from_origin origin (record { key = key; time = time; values = values }) ∷ [] in
    let own : time ≡ repeats.closing_time query.bound.now columns (key_in columns row) =
    time_is ∙ repeat_time origin.stream query columns given.found given.shape key ∙ ap (repeats.closing_time query.bound.now columns) key_is in
    rw shown_is (subst P (ap₂ one key_is own) deals)
