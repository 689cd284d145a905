use Rattle.std.proofs.Common.{◌≡◌, ap, rules}
use Rattle.std.specs.Ordering.{is_lt}
use Rattle.std.proofs.lemmas.Fn.{always_returns_same}
use Rattle.std.proofs.lemmas.List.Sorted.{IsPermutation-trans}
use Rattle.ssq_sink.specs.Sink.{is_row_below, row_cmp}
use Rattle.ssq_sink.proofs.Rows.{rows_order, rows_sorted}
use Rattle.ssq_sink.proofs.order.sort.Goals as goal

pub returns-in-Ok-clause-sorted : goal.returns-in-Ok-clause-sorted
returns-in-Ok-clause-sorted c =
    rows_sorted c.args.order.now _ _ c.in-Ok.ensures.permutation (c.in-Ok.ensures.sorted (is_row_below c.args.order.now) (rows_order c.args.order.now)
    (always_returns_same _ _ _ (λ a r f' h. (ap is_lt (let answers : r ≡ row_cmp c.args.order.now a.0.now a.1.0.now = search rules in answers), search rules))))

pub returns-in-Err-clause-sorted : goal.returns-in-Err-clause-sorted
returns-in-Err-clause-sorted c =
    rows_sorted c.args.order.now _ _ (IsPermutation-trans _ _ _ c.in-Err.ensures.permutation c.sort_unstable_by.ensures.permutation) (c.sort_unstable_by.ensures.sorted (is_row_below c.args.order.now) (rows_order c.args.order.now)
    (always_returns_same _ _ _ (λ a r f' h. (ap is_lt (let answers : r ≡ row_cmp c.args.order.now a.0.now a.1.0.now = search rules in answers), search rules))))

pub returns-in-Err-clause-permutation : goal.returns-in-Err-clause-permutation
returns-in-Err-clause-permutation c = IsPermutation-trans _ _ _ c.in-Err.ensures.permutation c.sort_unstable_by.ensures.permutation
