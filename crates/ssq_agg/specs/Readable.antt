-- Groups that can be kept as bytes, and read back from them.
use Rattle.std.specs.Prelude.{◌≡◌, ◌<◌, ◌^◌, List, [], ◌∷◌, All, length, Option, Some, FitsSigned}
use Rattle.std.specs.HashMap.{HashMap, get}
use Rattle.std.specs.Int.{w128}
use Rattle.ssq_shape.specs.declared.bound.Aggregate.{Aggregate}
use Rattle.ssq_shape.specs.declared.bound.Function.{Function}
use Rattle.ssq_shape.specs.declared.bound.Function.TheVariants as function
use Rattle.ssq_shape.specs.declared.bound.Grouping.{Grouping}
use Rattle.ssq_meaning.specs.declared.total.Total.{Total}
use Rattle.ssq_meaning.specs.declared.total.Total.TheVariants as total
use Rattle.ssq_meaning.specs.Fit.{IsFit}
use Rattle.ssq_meaning.specs.Group.{is_same}
use Rattle.ssq_meaning.specs.GroupLaws.{IsKeySpelled}
use Rattle.ssq_meaning.specs.Meaning.{Values}
use Rattle.ssq_step.specs.Indexing as index
use Rattle.ssq_agg.specs.declared.kept.Group.{Group}

-- a state can hold the value that is a least or a greatest
abbrev pub IsFitTotal : Total → Type 0
IsFitTotal (total.Count count) = Unit {0}
IsFitTotal (total.Sum count sum) = Unit {0}
IsFitTotal (total.Least least) = IsFit least
IsFitTotal (total.Greatest greatest) = IsFit greatest

-- a state can hold the key and the totals
pub record IsFitGroup (key : Values) (totals : List Total) : Type 0 where
  pub key_fits : All IsFit key
  pub totals_fit : All IsFitTotal totals

abbrev pub AreFit : List Group → Type 0
AreFit groups = All (λ (group : Group). IsFitGroup group.key group.totals) groups

abbrev pub AreFitAt : (Values → Option (List Total)) → Type 0
AreFitAt found = (key : Values) (totals : List Total) → found key ≡ Some totals → IsFitGroup key totals

abbrev pub AreFitGroups : {S : Type 0} → HashMap Values (List Total) S → Type 0
AreFitGroups groups = AreFitAt (get is_same groups)

-- a total of this function, which is read back from its bytes
abbrev pub IsTotalOf : Function → Total → Type 0
IsTotalOf function.Count (total.Count count) = count < 2 ^ 64
IsTotalOf function.Sum (total.Sum count sum) = (count < 2 ^ 64) × FitsSigned w128 sum
IsTotalOf function.Min (total.Least least) = IsFit least
IsTotalOf function.Max (total.Greatest greatest) = IsFit greatest
IsTotalOf _ _ = ⊥

-- a total for each of the aggregates, in their order
abbrev pub AreTotalsOf : List Aggregate → List Total → Type 0
AreTotalsOf [] [] = Unit {0}
AreTotalsOf [] (own ∷ totals) = ⊥
AreTotalsOf (aggregate ∷ aggregates) [] = ⊥
AreTotalsOf (aggregate ∷ aggregates) (own ∷ totals) = IsTotalOf aggregate.function own × AreTotalsOf aggregates totals

-- a key has a value for each part of GROUP BY, each of which has a spelling
abbrev pub IsKey : Grouping → Values → Type 0
IsKey grouping key = IsKeySpelled (length grouping.keys) key

-- a key that is read back from its bytes
abbrev pub IsReadableKey : Grouping → Values → Type 0
IsReadableKey grouping key = index.IsReadableKey (length grouping.keys) key

-- a group that is
pub record IsReadableGroup (grouping : Grouping) (key : Values) (totals : List Total) : Type 0 where
  pub key_is : IsReadableKey grouping key
  pub totals_are : AreTotalsOf grouping.aggregates totals
