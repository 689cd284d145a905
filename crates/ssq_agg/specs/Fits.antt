-- Totals that their types hold.
use Rattle.std.specs.Prelude.{◌<◌, ◌^◌, List, FitsSigned}
use Rattle.std.specs.Int.{w128}
use Rattle.std.specs.List.{AllByRecursion}
use Rattle.ssq_meaning.specs.declared.total.Total.{Total}
use Rattle.ssq_meaning.specs.declared.total.Total.TheVariants as total

-- a count has 64 bits, a sum 128
abbrev pub Fits : Total → Type 0
Fits (total.Count count) = count < 2 ^ 64
Fits (total.Sum count sum) = (count < 2 ^ 64) × FitsSigned w128 sum
Fits (total.Least least) = Unit {0}
Fits (total.Greatest greatest) = Unit {0}

abbrev pub AllFit : List Total → Type 0
AllFit totals = AllByRecursion Fits totals
