use Rattle.std.proofs.Common.{◌∙◌, FitsSigned, w64, rules}
use Rattle.std.proofs.lemmas.Int.{to_z-of_z}
use Rattle.ssq_feed.proofs.Windowing.{starts_years, starts_are}
use Rattle.ssq_feed.proofs.key_values.starts_of.Goals as goal

pub invariant_of-result-clause-years : goal.invariant_of-result-clause-years
invariant_of-result-clause-years c =
    let time : FitsSigned w64 c.args.time = c.ranges.time in
    let size : FitsSigned w64 c.args.size = c.ranges.size in
    let slide : FitsSigned w64 c.args.slide = c.ranges.slide in
    let first : FitsSigned w64 c.windows_of-first.result.0 = search rules in
    let windows = simp to_z-of_z at c.windows_of-first.ensures.windows in
    simp to_z-of_z (starts_years c.args.time c.args.size c.args.slide c.windows_of-first.result.0 c.windows_of-first.result.1 c.requires.time c.requires.window.size_is windows)

pub returns : goal.returns
returns c =
    let time : FitsSigned w64 c.args.time = c.ranges.time in
    let size : FitsSigned w64 c.args.size = c.ranges.size in
    let slide : FitsSigned w64 c.args.slide = c.ranges.slide in
    let first : FitsSigned w64 c.windows_of-first.result.0 = search rules in
    let start = simp to_z-of_z at c.windows_of-first.ensures.first in
    let count = simp to_z-of_z at c.windows_of-first.ensures.count in
    starts_are c.args.time c.args.size c.args.slide _ _ c.windows_of-first.result.1 (to_z-of_z w64 c.windows_of-first.result.0 first ∙ start) (to_z-of_z w64 c.args.slide slide) count
