-- What is shown of rows, of groups and of pairs, where it can be stored.
use Rattle.std.proofs.Common.{◌≡◌, refl, sym, ap, subst, ◌++◌, ◌∷◌, [], ◌<◌, ◌+◌, ℕ, zero, suc, ℤ, List, map, filter, Option, Some, None, Result, Ok, Err, Bool, true, false, not, arith}
use Rattle.std.specs.Prelude.{◌&&◌, ◌==◌, All, IfOk, IfSome, drop, filter_map, length, replicate, if◌then◌else◌, option_and_then}
use Rattle.std.specs.List.{AllByRecursion, cons_option, flat_map}
use Rattle.std.specs.Result.{result_ok}
use Rattle.std.proofs.lemmas.Bool.{and_parts}
use Rattle.std.proofs.lemmas.Bool.Decides.{nat_tests}
use Rattle.std.proofs.lemmas.List.Elements.{All-from_recursion, recursion_from_All}
use Rattle.ssq_value.specs.declared.column.ColType.{ColType}
use Rattle.ssq_value.specs.declared.column.Column.{Column}
use Rattle.ssq_value.specs.declared.value.Value.{Value}
use Rattle.ssq_value.specs.declared.value.Value.TheVariants as value
use Rattle.ssq_shape.specs.declared.bound.Bound.{Bound}
use Rattle.ssq_shape.specs.declared.bound.Grouping.{Grouping}
use Rattle.ssq_shape.specs.declared.bound.Joining.{Joining}
use Rattle.ssq_shape.specs.declared.bound.Output.{Output}
use Rattle.ssq_shape.specs.declared.typed.Typed.{Typed}
use Rattle.ssq_shape.specs.Evaluation.{Overflow, and_then}
use Rattle.ssq_shape.specs.Fit.{IsFit}
use Rattle.ssq_shape.specs.Kinds.{AreHeldBy}
use Rattle.ssq_shape.specs.Plain.{passes, projected, shown}
use Rattle.ssq_json.specs.Stored.{AreStoredIn}
use Rattle.ssq_meaning.specs.FedRows.{FedRow}
use Rattle.ssq_meaning.specs.declared.total.Total.{Total}
use Rattle.ssq_meaning.specs.Dedup.{firsts}
use Rattle.ssq_meaning.specs.Group.{distinct, due_keys, group_items, group_row, has_key, is_closed, is_due, is_same, keys_in, members, passes_having, row_of_key, totals_in}
use Rattle.ssq_meaning.specs.Join as pairs
use Rattle.ssq_meaning.specs.Join.{Considered, alone_of, considered, due_rows, is_candidate, is_left, is_on, joined_alone, joined_row, nulls, pair_of, pairs_of, pairs_with, row_of, shown_among}
use Rattle.ssq_meaning.specs.Meaning.{Values, layout_at}
use Rattle.ssq_meaning.specs.Totals.{totals_of, values_of_totals}
use Rattle.ssq_meaning.proofs.Handing.{all_append}
use Rattle.ssq_meaning.proofs.Keys.{All-by, All-distinct}
use Rattle.ssq_bind.specs.Typed.{HasItsKind, IsTypedGroup, column_kinds, read_kinds}
use Rattle.ssq_tables.specs.Shown.{kinds_of}
use Rattle.ssq_tables.proofs.Storing.{groups_stored, rows_stored}
use Rattle.ssq_tables.proofs.Totals.{aggregates_fit, aggregates_held}
use Rattle.ssq_tables.proofs.Typed.{AreArguments, kinds_in, two_read}

-- ---- lists

pub mapped : {A B : Type 0} (P : A → Type 0) (Q : B → Type 0) (f : A → B) → ((x : A) → P x → Q (f x)) → (xs : List A) → AllByRecursion P xs → AllByRecursion Q (map f xs)
mapped P Q f each [] all = tt
mapped P Q f each (x ∷ xs) all = (each x all.0, mapped P Q f each xs all.1)

one_found : {B : Type 0} (Q : B → Type 0) (o : Option B) (rest : List B) → IfSome o Q → AllByRecursion Q rest → AllByRecursion Q (cons_option o rest)
one_found Q None rest own all = all
one_found Q (Some y) rest own all = (own, all)

found_has : {A B : Type 0} (P : A → Type 0) (Q : B → Type 0) (f : A → Option B) → ((x : A) → P x → IfSome (f x) Q) → (xs : List A) → AllByRecursion P xs → AllByRecursion Q (filter_map f xs)
found_has P Q f each [] all = tt
found_has P Q f each (x ∷ xs) all = one_found Q (f x) (filter_map f xs) (each x all.0) (found_has P Q f each xs all.1)

-- those that pass a test, and what is made of them
passing_has : {A B : Type 0} (P : A → Type 0) (Q : B → Type 0) (p : A → Bool) (f : A → B) → ((x : A) → P x → p x ≡ true → Q (f x)) → (xs : List A) → AllByRecursion P xs → AllByRecursion Q (map f (filter p xs))
passing_has P Q p f each [] all = tt
passing_has P Q p f each (x ∷ xs) all = by (p x) (each x all.0) (passing_has P Q p f each xs all.1)
  where
    by : (b : Bool) → (b ≡ true → Q (f x)) → AllByRecursion Q (map f (filter p xs)) → AllByRecursion Q (map f (if b then x ∷ filter p xs else filter p xs))
    by true give rest = (give refl, rest)
    by false give rest = rest

-- ---- rows without repeats

one_first : (S : Values → Type 0) (known : Bool) (row : FedRow) (rest : List FedRow) → S row.values → AllByRecursion (λ (r : FedRow). S r.values) rest → AllByRecursion (λ (r : FedRow). S r.values) (if known then rest else row ∷ rest)
one_first S true row rest one all = all
one_first S false row rest one all = (one, all)

pub firsts_have : (S : Values → Type 0) (earlier rows : List FedRow) → AllByRecursion (λ (row : FedRow). S row.values) rows → AllByRecursion (λ (row : FedRow). S row.values) (firsts earlier rows)
unfolding firsts
firsts_have S earlier [] all = tt
firsts_have S earlier (row ∷ rows) all = one_first S (has_key earlier row.key) row (firsts (earlier ++ row ∷ []) rows) all.0 (firsts_have S (earlier ++ row ∷ []) rows all.1)

pub values_have : (S : Values → Type 0) (rows : List FedRow) → AllByRecursion (λ (row : FedRow). S row.values) rows → AllByRecursion S (map (λ row. row.values) rows)
values_have S rows all = mapped (λ (row : FedRow). S row.values) S (λ row. row.values) (λ row own. own) rows all

-- ---- groups

-- a row of a group: its key and its arguments have their types, and each value is one that a query can keep
pub record IsMember (query : Bound) (grouping : Grouping) (key_kinds aggregate_kinds : List ColType) (row : FedRow) : Type 0 where
  pub key : AreHeldBy key_kinds row.key
  pub arguments : AreArguments aggregate_kinds grouping.aggregates row.values
  pub key_fits : AllByRecursion IsFit row.key
  pub values_fit : AllByRecursion IsFit row.values

shown_if : (S : Values → Type 0) (passing : Result Bool Overflow) (items : Result Values Overflow) → IfOk items S
    → IfSome (option_and_then (λ row. row) (result_ok (and_then passing (λ passing. if passing then and_then items (λ values. Ok (Some values)) else Ok None)))) S
shown_if S (Err excess) items has = tt
shown_if S (Ok false) items has = tt
shown_if S (Ok true) (Err excess) has = tt
shown_if S (Ok true) (Ok values) has = has

module _ (query : Bound) (grouping : Grouping) (typed : IsTypedGroup (read_kinds query.streams) grouping query.outputs) where
  abbrev Member : FedRow → Type 0
  Member row = IsMember query grouping typed.key_kinds typed.aggregate_kinds row

  abbrev IsKey : Values → Type 0
  IsKey key = AreHeldBy typed.key_kinds key × AllByRecursion IsFit key

  row_stored : (rows : List FedRow) → AllByRecursion Member rows → (key : Values) → IsKey key → IfSome (row_of_key query grouping rows key) (AreStoredIn (kinds_of query.outputs))
  unfolding group_row
  row_stored rows all key own =
      let brought : List Values = members rows key in
      let of_key : List FedRow = filter (λ row. is_same key row.key) rows in
      let theirs = All-by Member (λ row. is_same key row.key) rows all in
      let arguments = mapped Member (λ row. AreArguments typed.aggregate_kinds grouping.aggregates row) (λ row. row.values) (λ row is. is.arguments) of_key theirs in
      let fit = mapped Member (AllByRecursion IsFit) (λ row. row.values) (λ row is. is.values_fit) of_key theirs in
      let aggregates = values_of_totals (totals_of grouping.aggregates brought) in
      shown_if (AreStoredIn (kinds_of query.outputs)) (passes_having grouping.having key aggregates) (group_items query.outputs key aggregates)
      (groups_stored typed.aggregate_kinds typed.key_kinds aggregates key query.outputs
      (aggregates_held (read_kinds query.streams) grouping.aggregates typed.aggregate_kinds 0 brought typed.counted arguments)
      (All-from_recursion (λ aggregate. IfSome aggregate IsFit) aggregates (aggregates_fit grouping.aggregates 0 brought fit)) own.0 (All-from_recursion IsFit key own.1) typed.shown)

  pub groups_shown : (old new : List FedRow) (before now : Option ℤ) → AllByRecursion Member old → AllByRecursion Member new
      → AllByRecursion (AreStoredIn (kinds_of query.outputs)) (filter_map (row_of_key query grouping (old ++ new)) (due_keys query grouping old new before now))
  groups_shown old new before now olds news =
      let all = all_append Member old new olds news in
      let keys = mapped Member IsKey (λ row. row.key) (λ row is. (is.key, is.key_fits)) (old ++ new) all in
      let due = All-by IsKey (λ key. is_due query.mode (is_closed query grouping before key) (is_closed query grouping now key) (has_key new key)) (keys_in (old ++ new)) (All-distinct IsKey (map (λ row. row.key) (old ++ new)) keys) in
      found_has IsKey (AreStoredIn (kinds_of query.outputs)) (row_of_key query grouping (old ++ new)) (row_stored (old ++ new) all) (due_keys query grouping old new before now) due

-- ---- pairs

-- a row of one of two streams: its values have the types of the stream's columns, and are ones that a query can keep
pub record IsOfStream (query : Bound) (row : FedRow) : Type 0 where
  pub stream : row.stream < 2
  pub values : AreHeldBy (kinds_in query.streams row.stream) row.values
  pub fit : AllByRecursion IsFit row.values

both_held : (kinds others : List ColType) (row other : Values) → AreHeldBy kinds row → AreHeldBy others other → AreHeldBy (kinds ++ others) (row ++ other)
both_held [] others [] other held next = next
both_held [] others (own ∷ row) other held next = absurd held
both_held (kind ∷ kinds) others [] other held next = absurd held
both_held (kind ∷ kinds) others (own ∷ row) other held next = (held.0, both_held kinds others row other held.1 next)

nulls_held : (columns : List Column) → AreHeldBy (column_kinds columns) (replicate (length columns) value.Null)
nulls_held [] = tt
nulls_held (column ∷ columns) = (tt, nulls_held columns)

nulls_fit : (columns : List Column) → AllByRecursion IsFit (replicate (length columns) value.Null)
nulls_fit [] = tt
nulls_fit (column ∷ columns) = (tt, nulls_fit columns)

is_first : (stream : ℕ) → is_left stream ≡ true → stream ≡ 0
is_first stream is = grind (arith, nat_tests)

is_second : (stream : ℕ) → stream < 2 → is_left stream ≡ false → stream ≡ 1
is_second stream few is = grind (arith, nat_tests)

if_passing : (S : Values → Type 0) (passing : Result Bool Overflow) (items : Result Values Overflow) → IfOk items S
    → IfOk (and_then passing (λ passing. if passing then and_then items (λ values. Ok (Some values)) else Ok None)) (λ row. IfSome row S)
if_passing S (Err excess) items has = tt
if_passing S (Ok false) items has = tt
if_passing S (Ok true) (Err excess) has = tt
if_passing S (Ok true) (Ok values) has = has

if_on : (S : Values → Type 0) (on : Result Bool Overflow) (row : Result (Option Values) Overflow) → IfOk row (λ row. IfSome row S) → IfOk (and_then on (λ on. if on then row else Ok None)) (λ row. IfSome row S)
if_on S (Err excess) row has = tt
if_on S (Ok false) row has = tt
if_on S (Ok true) row has = has

shown_of : (S : Values → Type 0) (row : Result (Option Values) Overflow) → IfOk row (λ row. IfSome row S) → IfSome (option_and_then (λ row. row) (result_ok row)) S
shown_of S (Err excess) has = tt
shown_of S (Ok None) has = tt
shown_of S (Ok (Some values)) has = has

module _ (query : Bound) (joining : Joining) (two : length query.streams ≡ 2) (typed : All (HasItsKind [] (read_kinds query.streams)) query.outputs) where
  abbrev S : Values → Type 0
  S = AreStoredIn (kinds_of query.outputs)

  abbrev Row : FedRow → Type 0
  Row row = IsOfStream query row

  abbrev IsShown : Considered → Type 0
  IsShown one = IfOk one.row (λ row. IfSome row S)

  joined_shown : (row : Values) → AreHeldBy (kinds_in query.streams 0 ++ kinds_in query.streams 1) row → AllByRecursion IsFit row → IfOk (shown query row) (λ row. IfSome row S)
  joined_shown row held fit =
      if_passing S (passes query.filter row) (projected query.outputs row)
      (rows_stored (read_kinds query.streams) row query.outputs (subst (λ kinds. AreHeldBy kinds row) (sym (two_read query.streams two)) held) (All-from_recursion IsFit row fit) typed)

  pair_shown : (left : FedRow) → Row left → (right : FedRow) → Row right → is_candidate joining left right ≡ true → IsShown (pair_of query joining left right)
  pair_shown left own right other meets =
      let sides = and_parts (is_left left.stream) (not (is_left right.stream)) (and_parts _ _ meets).0 in
      let first : left.stream ≡ 0 = is_first left.stream sides.0 in
      let second : right.stream ≡ 1 = is_second right.stream other.stream (is_not (is_left right.stream) sides.1) in
      if_on S (is_on joining left right) (shown query (joined_row left right))
      (joined_shown (joined_row left right) (both_held (kinds_in query.streams 0) (kinds_in query.streams 1) left.values right.values
      (subst (λ stream. AreHeldBy (kinds_in query.streams stream) left.values) first own.values) (subst (λ stream. AreHeldBy (kinds_in query.streams stream) right.values) second other.values))
      (all_append IsFit left.values right.values own.fit other.fit))
    where
      is_not : (b : Bool) → not b ≡ true → b ≡ false
      is_not true is = absurd cc
      is_not false is = refl

  pairs_shown : (lefts : List FedRow) → AllByRecursion Row lefts → (rights : List FedRow) → AllByRecursion Row rights → AllByRecursion IsShown (pairs_of query joining lefts rights)
  pairs_shown [] owns rights others = tt
  pairs_shown (left ∷ lefts) owns rights others =
      all_append IsShown (pairs_with query joining left rights) (pairs_of query joining lefts rights)
      (passing_has Row IsShown (is_candidate joining left) (pair_of query joining left) (λ right other meets. pair_shown left owns.0 right other meets) rights others)
      (pairs_shown lefts owns.1 rights others)

  alone_held : (left : Bool) (stream : ℕ) → is_left stream ≡ left → stream < 2 → (row : Values) → AreHeldBy (kinds_in query.streams stream) row → AreHeldBy (kinds_in query.streams 0 ++ kinds_in query.streams 1) (joined_alone query left row)
  alone_held true stream is few row held =
      both_held (kinds_in query.streams 0) (kinds_in query.streams 1) row (nulls query 1) (subst (λ stream. AreHeldBy (kinds_in query.streams stream) row) (is_first stream is) held) (nulls_held (layout_at query 1).columns)
  alone_held false stream is few row held =
      both_held (kinds_in query.streams 0) (kinds_in query.streams 1) (nulls query 0) row (nulls_held (layout_at query 0).columns) (subst (λ stream. AreHeldBy (kinds_in query.streams stream) row) (is_second stream few is) held)

  alone_fits : (left : Bool) (row : Values) → AllByRecursion IsFit row → AllByRecursion IsFit (joined_alone query left row)
  alone_fits true row fit = all_append IsFit row (nulls query 1) fit (nulls_fit (layout_at query 1).columns)
  alone_fits false row fit = all_append IsFit (nulls query 0) row (nulls_fit (layout_at query 0).columns) fit

  alone_shown : (row : FedRow) → Row row → IsShown (alone_of query row)
  alone_shown row own =
      joined_shown (joined_alone query (is_left row.stream) row.values) (alone_held (is_left row.stream) row.stream refl own.stream row.values own.values) (alone_fits (is_left row.stream) row.values own.fit)

  pub joins_shown : (old new : List FedRow) (before now : Option ℤ) → AllByRecursion Row old → AllByRecursion Row new → AllByRecursion S (shown_among (considered query joining old new before now))
  joins_shown old new before now olds news =
      let all = all_append Row old new olds news in
      let due = All-by Row (λ row. pairs.is_due joining before now row && pairs.is_alone joining (old ++ new) row) (old ++ new) all in
      let considered_all = all_append IsShown (pairs_of query joining old new ++ pairs_of query joining new (old ++ new)) (map (alone_of query) (due_rows joining (old ++ new) before now))
      (all_append IsShown (pairs_of query joining old new) (pairs_of query joining new (old ++ new)) (pairs_shown old olds new news) (pairs_shown new news (old ++ new) all))
      (mapped Row IsShown (alone_of query) alone_shown (due_rows joining (old ++ new) before now) due) in
      found_has IsShown S row_of (λ one own. shown_of S one.row own) (considered query joining old new before now) considered_all
