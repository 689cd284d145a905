-- One row more in its group.
use Rattle.std.proofs.Common.{◌≡◌, ◌<◌, ◌+◌, ◌++◌, ℕ, [], ◌∷◌, Some, None, List, Option, Bool, true, false, refl, ap, sym, ◌∙◌, subst, take, length, map, filter, get_or}
use Rattle.std.specs.Prelude.{if◌then◌else◌, IsSome, fold}
use Rattle.std.proofs.lemmas.List.{append-nil, map-append}
use Rattle.std.proofs.lemmas.List.Elements.{filter-append}
use Rattle.std.proofs.lemmas.List.Sums.{fold-append}
use Rattle.ssq_value.specs.declared.value.Value.{Value}
use Rattle.ssq_shape.specs.declared.bound.Aggregate.{Aggregate}
use Rattle.ssq_meaning.specs.FedRows.{FedRow}
use Rattle.ssq_meaning.specs.declared.total.Total.{Total}
use Rattle.ssq_meaning.specs.Group.{is_same, members}
use Rattle.ssq_meaning.specs.Totals.{with_row}
use Rattle.ssq_meaning.proofs.Keys.{same_back, same_is, same_itself}
use Rattle.ssq_step.proofs.Lists.{one_more}
use Rattle.ssq_agg.specs.Fits.{AllFit}
use Rattle.ssq_agg.specs.Groups.{AreSteady, Held, goes_on, started, touched}

-- a key that no row touched before
pub fresh : (aggregates : List Aggregate) (own at : Option (List Total)) (totals more : List Total) (row : List Value) → None ≡ at → totals ≡ started aggregates own
    → (AllFit (with_row totals row) → more ≡ with_row totals row) → AllFit (with_row (goes_on aggregates own at) row) → more ≡ with_row (goes_on aggregates own at) row
fresh aggregates own None totals more row none is adds fits = adds (subst (λ t. AllFit (with_row t row)) (sym is) fits) ∙ ap (λ t. with_row t row) is
fresh aggregates own (Some other) totals more row none is adds fits = absurd cc

-- and one that some row touched
pub again : (aggregates : List Aggregate) (own at : Option (List Total)) (totals : List Total) → Some totals ≡ at → goes_on aggregates own at ≡ totals
again aggregates own at totals is = ap (goes_on aggregates own) (sym is)

pub is_there : {A : Type 0} (at : Option A) (x : A) → Some x ≡ at → IsSome at
is_there None x is = absurd cc
is_there (Some y) x is = refl

-- ---- the rows so far

fold_more : (totals : List Total) (rows : List (List Value)) (row : List Value) → with_row (fold with_row totals rows) row ≡ fold with_row totals (rows ++ row ∷ [])
fold_more totals rows row = sym (fold-append with_row totals rows (row ∷ []))

goes_on_is : (aggregates : List Aggregate) (own : Option (List Total)) (rows : List (List Value)) → goes_on aggregates own (touched aggregates own rows) ≡ fold with_row (started aggregates own) rows
goes_on_is aggregates own [] = refl
goes_on_is aggregates own (row ∷ rows) = refl

touched_more : (aggregates : List Aggregate) (own : Option (List Total)) (rows : List (List Value)) (row : List Value)
    → Some (with_row (goes_on aggregates own (touched aggregates own rows)) row) ≡ touched aggregates own (rows ++ row ∷ [])
touched_more aggregates own rows row =
    ap (λ totals. Some (with_row totals row)) (goes_on_is aggregates own rows)
    ∙ ap (λ totals. Some totals) (fold_more (started aggregates own) rows row)
    ∙ by rows
  where
    by : (rows : List (List Value)) → Some (fold with_row (started aggregates own) (rows ++ row ∷ [])) ≡ touched aggregates own (rows ++ row ∷ [])
    by [] = refl
    by (first ∷ rows) = refl

-- what one row more brings to a key
members_more : (rows : List FedRow) (row : FedRow) (key : List Value) → members (rows ++ row ∷ []) key ≡ members rows key ++ (if is_same key row.key then row.values ∷ [] else [])
members_more rows row key =
    ap (map (λ (row : FedRow). row.values)) (filter-append (λ row. is_same key row.key) rows (row ∷ []))
    ∙ map-append (λ (row : FedRow). row.values) (filter (λ row. is_same key row.key) rows) (filter (λ row. is_same key row.key) (row ∷ []))
    ∙ ap (λ l. members rows key ++ l) (by (is_same key row.key))
  where
    by : (b : Bool) → map (λ (row : FedRow). row.values) (if b then row ∷ [] else []) ≡ (if b then row.values ∷ [] else [])
    by true = refl
    by false = refl

module _ (aggregates : List Aggregate) (held : Held) (rows : List FedRow) (at : ℕ) (row : FedRow) (inside : at < length rows) (is : row ≡ get_or rows at row)
    (before after : List Value → Option (List Total)) where
  took : take (at + 1) rows ≡ take at rows ++ row ∷ []
  took = one_more rows at row inside is

  -- the row's types hold it
  pub steady : AreSteady aggregates held rows → ((key : List Value) → before key ≡ touched aggregates (held key) (members (take at rows) key))
      → AllFit (with_row (goes_on aggregates (held row.key) (before row.key)) row.values)
  steady are was =
      let one : with_row (goes_on aggregates (held row.key) (before row.key)) row.values ≡ fold with_row (started aggregates (held row.key)) (members (take (at + 1) rows) row.key) =
      ap (λ own. with_row (goes_on aggregates (held row.key) own) row.values) (was row.key)
      ∙ ap (λ totals. with_row totals row.values) (goes_on_is aggregates (held row.key) (members (take at rows) row.key))
      ∙ fold_more (started aggregates (held row.key)) (members (take at rows) row.key) row.values
      ∙ ap (λ l. fold with_row (started aggregates (held row.key)) l) (sym (here (take at rows)) ∙ ap (λ l. members l row.key) (sym took)) in
      subst AllFit (sym one) (are (at + 1) row.key)
    where
      here : (some : List FedRow) → members (some ++ row ∷ []) row.key ≡ members some row.key ++ row.values ∷ []
      here some = members_more some row row.key ∙ ap (λ b. members some row.key ++ (if b then row.values ∷ [] else [])) (same_itself row.key)

  pub touched_on : ((key : List Value) → before key ≡ touched aggregates (held key) (members (take at rows) key))
      → ((key : List Value) → after key ≡ (if is_same row.key key then Some (with_row (goes_on aggregates (held row.key) (before row.key)) row.values) else before key))
      → (key : List Value) → after key ≡ touched aggregates (held key) (members (take (at + 1) rows) key)
  touched_on was now key = now key ∙ by (is_same row.key key) refl ∙ ap (λ l. touched aggregates (held key) l) (sym (members_more (take at rows) row key) ∙ ap (λ l. members l key) (sym took))
    where
      by : (b : Bool) → is_same row.key key ≡ b → (if b then Some (with_row (goes_on aggregates (held row.key) (before row.key)) row.values) else before key)
          ≡ touched aggregates (held key) (members (take at rows) key ++ (if is_same key row.key then row.values ∷ [] else []))
      by true same =
          let one : row.key ≡ key = same_is row.key key same in
          ap (λ k. Some (with_row (goes_on aggregates (held k) (before k)) row.values)) one
          ∙ ap (λ own. Some (with_row (goes_on aggregates (held key) own) row.values)) (was key)
          ∙ touched_more aggregates (held key) (members (take at rows) key) row.values
          ∙ ap (λ b. touched aggregates (held key) (members (take at rows) key ++ (if b then row.values ∷ [] else []))) (sym same ∙ same_back row.key key)
      by false other =
          was key
          ∙ ap (λ l. touched aggregates (held key) l) (sym (append-nil (members (take at rows) key)))
          ∙ ap (λ b. touched aggregates (held key) (members (take at rows) key ++ (if b then row.values ∷ [] else []))) (sym other ∙ same_back row.key key)
