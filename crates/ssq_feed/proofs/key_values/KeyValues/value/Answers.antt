use Rattle.std.proofs.Common.{◌∙◌, ap, sym, rules, arith, Some, w64, FitsSigned}
use Rattle.std.proofs.lemmas.Int.{to_z-of_z}
use Rattle.ssq_value.specs.declared.value.Value.TheVariants.{Time}
use Rattle.ssq_feed.proofs.Windowing.{start_at, count_is}
use Rattle.ssq_feed.proofs.key_values.KeyValues.value.Goals as goal

pub start-requires : goal.start-requires
start-requires c =
    let below = rw c.in-Starts.is at c.requires in
    omega (arith, below, count_is c.in-Starts.starts)

pub returns-in-Starts : goal.returns-in-Starts
returns-in-Starts c =
    let start : FitsSigned w64 c.start.result = search rules in
    let below = rw c.in-Starts.is at c.requires in
    rw c.in-Starts.is (start_at c.in-Starts.starts c.args.nth below ∙ ap (λ t. Some (Time t)) (sym c.start.ensures ∙ sym (to_z-of_z w64 c.start.result start)))
