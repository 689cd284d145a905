-- Keys that are put under a time, and the times of the rows of a join.
use Rattle.std.proofs.Common.{◌≡◌, ◌∷◌, ℕ, ℤ, Some, None, List, Option, All, Bool, true, false, length, refl, ap, sym, subst, ◌∙◌}
use Rattle.std.specs.Prelude.{◌&&◌, if◌then◌else◌, FitsSigned, IfSome, is_some}
use Rattle.std.specs.BTreeMap.{is_at}
use Rattle.std.specs.Ordering.{int_cmp, is_eq}
use Rattle.std.specs.Int.{w64}
use Rattle.std.proofs.lemmas.Bool.{and_right}
use Rattle.std.proofs.lemmas.Option.{IfSome_then}
use Rattle.ssq_version.specs.State.{by_bytes}
use Rattle.ssq_version.proofs.Values.{is_itself}
use Rattle.ssq_value.specs.Key.{keys_of}
use Rattle.ssq_shape.specs.Evaluation.{cell_at, time_in}
use Rattle.ssq_shape.specs.declared.bound.Bound.{Bound}
use Rattle.ssq_shape.specs.declared.bound.Joining.{Joining}
use Rattle.ssq_shape.specs.declared.bound.TimeBound.{TimeBound}
use Rattle.ssq_meaning.specs.Fit.{IsFit}
use Rattle.ssq_meaning.specs.Join.{event_column, join_time, last_time, side_byte}
use Rattle.ssq_meaning.specs.Meaning.{Values}
use Rattle.ssq_step.specs.Rows.{HasEventTime, HasParts, HasTime, IsEvent, IsTimed, TurnsAt, stream_of, width_of}
use Rattle.ssq_step.specs.Timed.{Timed, by_time, has}
use Rattle.ssq_step.proofs.Timing.{and_true, at_time}

-- ---- a key that is put under a time, or taken from it

module _ (key : List ℕ) (before after : List Timed) where
  others_left : (entry : Timed) (is_there : Bool) → entry.1 ≡ key → ((q : Timed) → has after q ≡ (if is_at (by_time entry) q then is_there else has before q))
      → (other : List ℕ) → is_at (by_bytes key) other ≡ false → (t : ℤ) → has after (t, other) ≡ has before (t, other)
  others_left entry is_there same updates other apart t =
      updates (t, other)
      ∙ ap (λ b. if b then is_there else has before (t, other))
      (at_time entry (t, other) ∙ ap (λ k. is_eq (int_cmp entry.0 t) && is_at (by_bytes k) other) same ∙ and_right (is_eq (int_cmp entry.0 t)) (is_at (by_bytes key) other) apart)

  here_is : (entry : Timed) (is_there : Bool) → entry.1 ≡ key → ((q : Timed) → has after q ≡ (if is_at (by_time entry) q then is_there else has before q))
      → (t : ℤ) → has after (t, key) ≡ (if is_eq (int_cmp entry.0 t) then is_there else has before (t, key))
  here_is entry is_there same updates t =
      updates (t, key)
      ∙ ap (λ b. if b then is_there else has before (t, key))
      (at_time entry (t, key) ∙ ap (λ k. is_eq (int_cmp entry.0 t) && is_at (by_bytes k) key) same ∙ and_true (is_eq (int_cmp entry.0 t)) (is_at (by_bytes key) key) (is_itself key))

  pub put : (entry : Timed) (time : ℤ) → entry ≡ (time, key) → ((q : Timed) → has after q ≡ (if is_at (by_time entry) q then true else has before q)) → TurnsAt key None (Some time) before after
  put entry time is updates = record {
    here = λ none t.
        here_is entry true (ap (λ (e : Timed). e.1) is) updates t
        ∙ (λ i. if is_eq (int_cmp (ap (λ (e : Timed). e.0) is i) t) then true else none t i)
        ∙ by (is_eq (int_cmp time t));
    others = others_left entry true (ap (λ (e : Timed). e.1) is) updates;
  } where
    by : (b : Bool) → (if b then true else false) ≡ b
    by true = refl
    by false = refl

  pub taken : (entry : Timed) (time : ℤ) → entry ≡ (time, key) → ((q : Timed) → has after q ≡ (if is_at (by_time entry) q then false else has before q)) → TurnsAt key (Some time) None before after
  taken entry time is updates = record {
    here = λ stands t.
        here_is entry false (ap (λ (e : Timed). e.1) is) updates t
        ∙ (λ i. if is_eq (int_cmp (ap (λ (e : Timed). e.0) is i) t) then false else stands t i)
        ∙ by (is_eq (int_cmp time t));
    others = others_left entry false (ap (λ (e : Timed). e.1) is) updates;
  } where
    by : (b : Bool) → (if b then false else b) ≡ false
    by true = refl
    by false = refl

pub untouched : (key : List ℕ) (entries : List Timed) (time : Option ℤ) → TurnsAt key time time entries entries
untouched key entries time = record { here = λ stands. stands; others = λ other apart t. refl }

module _ (key : List ℕ) (before after : List Timed) (entry : Timed) (time : Option ℤ) (t : ℤ) (there : time ≡ Some t) (is : entry ≡ (t, key)) where
  pub put_if : ((q : Timed) → has after q ≡ (if is_at (by_time entry) q then true else has before q)) → TurnsAt key None time before after
  put_if updates = subst (λ (time : Option ℤ). TurnsAt key None time before after) (sym there) (put key before after entry t is updates)

  pub taken_if : ((q : Timed) → has after q ≡ (if is_at (by_time entry) q then false else has before q)) → TurnsAt key time None before after
  taken_if updates = subst (λ (time : Option ℤ). TurnsAt key time None before after) (sym there) (taken key before after entry t is updates)

-- where there is no time, nothing is put, and nothing is taken
module _ (key : List ℕ) (entries : List Timed) (time : Option ℤ) (none : time ≡ None) where
  pub put_none : TurnsAt key None time entries entries
  put_none = subst (λ (time : Option ℤ). TurnsAt key None time entries entries) (sym none) (untouched key entries None)

  pub taken_none : TurnsAt key time None entries entries
  taken_none = subst (λ (time : Option ℤ). TurnsAt key time None entries entries) (sym none) (untouched key entries None)

-- ---- one time at most

pub one_time : (query : Bound) (joining : Joining) (key value : List ℕ) (one other : Option ℤ) → HasTime query joining key value one → HasTime query joining key value other → one ≡ other
one_time query joining key value None None a b = refl
one_time query joining key value None (Some t) a b = a.each t b.found
one_time query joining key value (Some t) other a b = sym (b.each t a.found)

-- ---- what is read of a row

pub parts_as : (key value other another : List ℕ) (left : Bool) (values : List ℕ) (met : Bool) → other ≡ key → another ≡ value → HasParts other another left values met → HasParts key value left values met
parts_as key value other another left values met same alike own = record { rest = own.rest; side = sym same ∙ own.side; spelled = sym alike ∙ own.spelled }

module _ (query : Bound) (joining : Joining) (key value : List ℕ) where
  -- where these bytes begin with no side, no row has a time
  pub no_time : ((left : Bool) (rest : List ℕ) → key ≡ side_byte left ∷ rest → ◌≡◌ {A = Option Bool} None (Some left)) → HasTime query joining key value None
  no_time none = record { found = tt; each = λ t is. absurd (never is.left (none is.left is.row.bytes.rest is.row.bytes.side)) }
    where
      never : (left : Bool) → ◌≡◌ {A = Option Bool} None (Some left) → ⊥
      never left is = cc

  -- where these are the bytes of no row, it has no event time
  pub no_event : ((left : Bool) (values : List ℕ) (met : Bool) → HasParts key value left values met → ⊥) → HasEventTime query joining key value None
  no_event none = record { found = tt; each = λ left values met row. absurd (none left (keys_of values) met row.bytes) }

  -- and without a bound no row has one
  pub no_event_time : joining.bound ≡ None → HasEventTime query joining key value None
  no_event_time none = record { found = tt; each = λ left values met row. sym (ap (λ bound. join_time bound (stream_of left) values) none) }

  -- where the join has no bound, no row has a time
  pub unbounded : joining.bound ≡ None → HasTime query joining key value None
  unbounded none = record { found = tt; each = λ t is. absurd (never joining.bound is.left (join_time joining.bound (stream_of is.left) is.values) t none is.time) }
    where
      never : (bound : Option TimeBound) (left : Bool) (time : Option ℤ) (t : ℤ) → bound ≡ None → last_time bound left time ≡ Some t → ⊥
      never None left time t none is = cc
      never (Some bound) left time t none is = cc

pub no_bound : (bound : Option TimeBound) → is_some bound ≡ false → bound ≡ None
no_bound None none = refl
no_bound (Some bound) none = absurd cc

no_last : (bound : Option TimeBound) (left : Bool) (t : ℤ) → last_time bound left None ≡ Some t → ⊥
no_last None left t is = cc
no_last (Some bound) true t is = cc
no_last (Some bound) false t is = cc

-- the time of a row of a side is in the column of that side
in_column : (bound : Option TimeBound) (limits : TimeBound) (left : Bool) (values : Values) → bound ≡ Some limits → join_time bound (stream_of left) values ≡ time_in (cell_at values (event_column left limits))
in_column bound limits true values is = ap (λ b. join_time b 0 values) is
in_column bound limits false values is = ap (λ b. join_time b 1 values) is

-- So many values that a state can hold have these bytes, and the time is that in this column.
abbrev pub HasTimeIn : (bytes : List ℕ) (count column : ℕ) → ℤ → Type 0
HasTimeIn bytes count column t = (own : Values) × All IsFit own × (length own ≡ count) × (keys_of own ≡ bytes) × (time_in (cell_at own column) ≡ Some t)

module _ (query : Bound) (joining : Joining) (key value : List ℕ) (limits : TimeBound) (left met : Bool) (bytes : List ℕ) (time : Option ℤ) (bound_is : joining.bound ≡ Some limits) (own : HasParts key value left bytes met) where
  -- the event time of the row with these bytes
  pub has_event_time : IfSome time (HasTimeIn bytes (width_of query left) (event_column left limits))
      → ((values : Values) → All IsFit values → length values ≡ width_of query left → keys_of values ≡ bytes → time ≡ time_in (cell_at values (event_column left limits)))
      → ((l : Bool) (b : List ℕ) (m : Bool) → HasParts key value l b m → (left ≡ l) × (bytes ≡ b) × (met ≡ m))
      → HasEventTime query joining key value time
  has_event_time has each_time one = record {
    found = IfSome_then time has (λ t at. record {
      left = left;
      values = at.0;
      met = met;
      row = record { bytes = subst (λ b. HasParts key value left b met) (sym at.3) own; fit = at.1; many = at.2 };
      time = in_column joining.bound limits left at.0 bound_is ∙ at.4;
    });
    each = λ l values m row.
        let same = one l (keys_of values) m row.bytes in
        each_time values row.fit (row.many ∙ ap (width_of query) (sym same.0)) (sym same.1)
        ∙ sym (in_column joining.bound limits left values bound_is)
        ∙ ap (λ l. join_time joining.bound (stream_of l) values) same.0;
  }

module _ (query : Bound) (joining : Joining) (key value : List ℕ) (left : Bool) (one : (l : Bool) (rest : List ℕ) → key ≡ side_byte l ∷ rest → Some left ≡ Some l) where
  own_side : (l : Bool) (rest : List ℕ) → key ≡ side_byte l ∷ rest → left ≡ l
  own_side l rest is = let same = one l rest is in cc

  timed : (time : Option ℤ) → IfSome time (IsEvent query joining key value) → (last : ℤ) → last_time joining.bound left time ≡ Some last → FitsSigned w64 last → IsTimed query joining key value last
  timed None at last is fits = absurd (no_last joining.bound left last is)
  timed (Some t) at last is fits = record {
    left = at.left;
    values = at.values;
    met = at.met;
    row = at.row;
    time = ap (last_time joining.bound at.left) at.time ∙ ap (λ l. last_time joining.bound l (Some t)) (sym (own_side at.left at.row.bytes.rest at.row.bytes.side)) ∙ is;
    fits = fits;
  }

  -- the time of a row of this side, by its event time
  pub row_has_time : (time result : Option ℤ) → HasEventTime query joining key value time
      → IfSome result (λ last. (last_time joining.bound left time ≡ Some last) × FitsSigned w64 last) → ((last : ℤ) → FitsSigned w64 last → last_time joining.bound left time ≡ Some last → result ≡ Some last)
      → HasTime query joining key value result
  row_has_time time result event found each = record {
    found = IfSome_then result found (λ last is. timed time event.found last is.0 is.1);
    each = λ t is.
        each t is.fits
        (ap (last_time joining.bound left) (event.each is.left is.values is.met is.row)
        ∙ ap (λ l. last_time joining.bound l (join_time joining.bound (stream_of is.left) is.values)) (own_side is.left is.row.bytes.rest is.row.bytes.side)
        ∙ is.time);
  }
