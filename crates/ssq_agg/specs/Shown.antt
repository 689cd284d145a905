-- What is shown of groups, one after the other.
use Rattle.std.specs.Prelude.{◌≡◌, ◌++◌, Bool, true, false, List, [], ◌∷◌, fold, flat_map, map, filter, not, Option, Some, None, Result, Ok, Err, is_err, is_some}
use Rattle.ssq_version.specs.State.{State}
use Rattle.ssq_shape.specs.declared.bound.Bound.{Bound}
use Rattle.ssq_shape.specs.declared.bound.Grouping.{Grouping}
use Rattle.ssq_shape.specs.Evaluation.{Overflow}
use Rattle.ssq_meaning.specs.declared.total.Total.{Total}
use Rattle.ssq_meaning.specs.Group.{group_row, lesser_key}
use Rattle.ssq_meaning.specs.Meaning.{Values}
use Rattle.ssq_agg.specs.declared.kept.Group.{Group}
use Rattle.ssq_step.specs.declared.shown.Shown.{Shown}
use Rattle.ssq_agg.specs.Holding.{AreRead}

-- the row, if there is one
abbrev pub row_if : Result (Option Values) Overflow → List Values
row_if (Ok None) = []
row_if (Ok (Some row)) = row ∷ []
row_if (Err excess) = []

-- the least of the keys that overflow, with one more key
abbrev pub fault_if : Bool → Values → Option Values → Option Values
fault_if true key least = Some (lesser_key key least)
fault_if false key least = least

-- a key with its totals
abbrev pub Pair : Type 0
Pair = Values × List Total

abbrev pub shown_of : Bound → Grouping → Pair → Result (Option Values) Overflow
shown_of query grouping pair = group_row query grouping pair.0 pair.1

abbrev pub shown_rows : Bound → Grouping → List Pair → List Values
shown_rows query grouping pairs = flat_map (λ pair. row_if (shown_of query grouping pair)) pairs

abbrev pub least_fault : Bound → Grouping → Option Values → List Pair → Option Values
least_fault query grouping own pairs = fold (λ own pair. fault_if (is_err (shown_of query grouping pair)) pair.0 own) own pairs

-- the rows of the groups come after those before, and the least key that overflows is known, theirs included
pub record Shows (query : Bound) (grouping : Grouping) (pairs : List Pair) (before after : Shown) : Type 0 where
  pub rows : after.rows.items ≡ before.rows.items ++ shown_rows query grouping pairs
  pub fault : after.fault ≡ least_fault query grouping before.fault pairs

abbrev pub pair_of : Group → Pair
pair_of group = (group.key, group.totals)

abbrev pub pairs_of : List Group → List Pair
pairs_of groups = map pair_of groups

-- those whose keys are not among others
abbrev pub others_of : {X : Type 0} → (Values → Option X) → List Group → List Group
others_of found groups = filter (λ (group : Group). not (is_some (found group.key))) groups

-- the groups of a state but for those whose keys are among others
abbrev pub AreOthers : {X : Type 0} → Grouping → State → (Values → Option X) → List Group → Type 0
AreOthers grouping state found others = (all : List Group) × AreRead grouping state all × (others ≡ others_of found all)

-- what is shown so far, and then these groups, comes to what all of them come to
pub record Finishes (query : Bound) (grouping : Grouping) (left all : List Pair) (before now : Shown) : Type 0 where
  pub rows : now.rows.items ++ shown_rows query grouping left ≡ before.rows.items ++ shown_rows query grouping all
  pub fault : least_fault query grouping now.fault left ≡ least_fault query grouping before.fault all
