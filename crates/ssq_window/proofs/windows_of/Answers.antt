use Rattle.std.proofs.Common.{FitsSigned, w64, to_z-of_z, arith}
use Rattle.ssq_time.proofs.Signed.{signed_arith, signed_casts}
use Rattle.ssq_window.proofs.Windows.{windows_of_parts, first_start_of_parts}
use Rattle.ssq_window.proofs.windows_of.Goals as goal

pub returns-clause-first : goal.returns-clause-first
returns-clause-first c =
    let time : FitsSigned w64 c.args.t = c.ranges.t in
    let size : FitsSigned w64 c.args.size = c.ranges.size in
    let slide : FitsSigned w64 c.args.slide = c.ranges.slide in
    let rest = simp to_z-of_z at c.rest_before-rest.ensures.value in
    let count = simp to_z-of_z at c.count_of-count.ensures.value in
    let before = simp to_z-of_z at c.before_first-before.ensures.value in
    let bound = simp to_z-of_z at c.before_first-before.ensures.below in
    first_start_of_parts c.args.t c.args.size c.args.slide _ _ _ c.before_first-before.result rest count before (omega (arith, signed_casts, bound))

pub returns-clause-windows : goal.returns-clause-windows
returns-clause-windows c =
    let time : FitsSigned w64 c.args.t = c.ranges.t in
    let size : FitsSigned w64 c.args.size = c.ranges.size in
    let slide : FitsSigned w64 c.args.slide = c.ranges.slide in
    let rest = simp to_z-of_z at c.rest_before-rest.ensures.value in
    let before = simp to_z-of_z at c.before_first-before.ensures.value in
    let covers = simp to_z-of_z at c.count_of-count.ensures.covers in
    let bound = simp to_z-of_z at c.before_first-before.ensures.below in
    windows_of_parts c.args.t c.args.size c.args.slide _ c.rest_before-rest.result c.count_of-count.result c.before_first-before.result
    (omega (arith, signed_arith)) (omega (arith, signed_arith)) rest before (omega (arith, signed_casts, bound)) covers
