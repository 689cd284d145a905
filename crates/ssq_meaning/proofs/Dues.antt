-- Which keys an epoch considers, by what was kept.
use Rattle.std.proofs.Common.{◌≡◌, ◌++◌, [], ℕ, ℤ, List, Option, Some, None, Bool, true, false, refl, ap, sym, ◌∙◌}
use Rattle.std.specs.Prelude.{◌&&◌, ◌||◌, not, if◌then◌else◌, is_some, fold}
use Rattle.ssq_shape.specs.declared.bound.Bound.{Bound}
use Rattle.ssq_shape.specs.declared.bound.Grouping.{Grouping}
use Rattle.ssq_shape.specs.declared.bound.Mode.{Mode}
use Rattle.ssq_shape.specs.declared.bound.Mode.TheVariants as mode
use Rattle.ssq_shape.specs.Late.{event_of, time_key}
use Rattle.ssq_meaning.specs.FedRows.{FedRow}
use Rattle.ssq_meaning.specs.declared.total.Total.{Total}
use Rattle.ssq_meaning.specs.Group.{keys_in, has_key, members, totals_in, is_closed, is_due, closing_time, time_by, unless_complete}
use Rattle.ssq_meaning.specs.GroupLaws.{Follows, times_due, held_if, held, is_due_now}
use Rattle.ssq_meaning.specs.Meaning.{Values}
use Rattle.ssq_meaning.specs.Times.{is_past}
use Rattle.ssq_meaning.specs.Totals.{totals_of, with_row}
use Rattle.ssq_meaning.proofs.Adds.{rows_more}
use Rattle.ssq_meaning.proofs.Counted.{times_in, has_key-append, no_rows, stays, ended}
use Rattle.ssq_meaning.proofs.Grouped.{members-append}
use Rattle.ssq_meaning.proofs.Keys.{times_passing}

module _ (query : Bound) (grouping : Grouping) (old new : List FedRow) (before now : Option ℤ) (follows : Follows query grouping new before now) (key : Values) where
  by_flags : (own : Mode) (a b h m : Bool) → (a ≡ true → b ≡ true) → (b ≡ true → m ≡ false) → (own ≡ mode.Complete → a ≡ false)
      → ◌≡◌ {A = ℕ} (if is_due own a b m then (if (h || m) then 1 else 0) else 0) (if is_due_now own (h && not a) b m then 1 else 0)
  by_flags mode.Append true b h m stays ends opens = by b h (stays refl)
    where
      by : (b h : Bool) → b ≡ true → ◌≡◌ {A = ℕ} (if (b && false) then (if (h || m) then 1 else 0) else 0) (if ((h && false) && b) then 1 else 0)
      by true true is = refl
      by true false is = refl
      by false h is = absurd cc
  by_flags mode.Append false true h m stays ends opens = by h m (ends refl)
    where
      by : (h m : Bool) → m ≡ false → ◌≡◌ {A = ℕ} (if (h || m) then 1 else 0) (if ((h && true) && true) then 1 else 0)
      by true m is = refl
      by false true is = absurd cc
      by false false is = refl
  by_flags mode.Append false false true m stays ends opens = refl
  by_flags mode.Append false false false m stays ends opens = refl
  by_flags mode.Update a b true true stays ends opens = refl
  by_flags mode.Update a b false true stays ends opens = refl
  by_flags mode.Update a b h false stays ends opens = refl
  by_flags mode.Complete true b h m stays ends opens = let no : true ≡ false = opens refl in absurd cc
  by_flags mode.Complete false b true m stays ends opens = refl
  by_flags mode.Complete false b false true stays ends opens = refl
  by_flags mode.Complete false b false false stays ends opens = refl

  some_if : (b : Bool) (totals : List Total) → is_some (held_if b totals) ≡ b
  some_if true totals = refl
  some_if false totals = refl

  open_in_complete : query.mode ≡ mode.Complete → is_closed query grouping before key ≡ false
  unfolding closing_time
  open_in_complete is =
      ap (λ m. is_past before (unless_complete m (time_by (time_key query) (event_of query.streams) grouping.keys key))) is ∙ by before
    where
      by : (w : Option ℤ) → is_past w None ≡ false
      by None = refl
      by (Some w) = refl

  pub due_now : times_due query grouping old new before now key ≡ (if is_due_now query.mode (is_some (held query grouping old before key)) (is_closed query grouping now key) (has_key new key) then 1 else 0)
  due_now =
      let a = is_closed query grouping before key in
      let b = is_closed query grouping now key in
      times_passing key (λ key. is_due query.mode (is_closed query grouping before key) (is_closed query grouping now key) (has_key new key)) (keys_in (old ++ new))
      ∙ ap (λ n. if is_due query.mode a b (has_key new key) then n else 0) (times_in key (old ++ new) ∙ ap (λ h. if h then 1 else 0) (has_key-append old new key))
      ∙ by_flags query.mode a b (has_key old key) (has_key new key) (stays query grouping old new before now follows key) (ended query grouping old new before now follows key) open_in_complete
      ∙ ap (λ h. if is_due_now query.mode h b (has_key new key) then 1 else 0) (sym (some_if (has_key old key && not a) (totals_in grouping old key)))

  pub no_new_rows : is_closed query grouping now key ≡ true → members new key ≡ []
  no_new_rows closed = no_rows key new (ended query grouping old new before now follows key closed)

-- the totals of a key with more rows
pub totals_with : (grouping : Grouping) (old new : List FedRow) (key : Values) → totals_in grouping (old ++ new) key ≡ fold with_row (totals_in grouping old key) (members new key)
totals_with grouping old new key = ap (totals_of grouping.aggregates) (members-append old new key) ∙ rows_more grouping.aggregates (members old key) (members new key)
