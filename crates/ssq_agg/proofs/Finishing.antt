-- One group more is shown.
use Rattle.std.proofs.Common.{◌≡◌, ◌++◌, [], ◌∷◌, List, ap, sym, ◌∙◌, append_assoc, append-nil}
use Rattle.ssq_shape.specs.declared.bound.Bound.{Bound}
use Rattle.ssq_shape.specs.declared.bound.Grouping.{Grouping}
use Rattle.ssq_step.specs.declared.shown.Shown.{Shown}
use Rattle.ssq_agg.specs.Shown.{Finishes, Pair, Shows, least_fault, row_if, shown_of, shown_rows}

pub finishes_on : (query : Bound) (grouping : Grouping) (left rest all : List Pair) (pair : Pair) (before now next : Shown) → left ≡ pair ∷ rest → Shows query grouping (pair ∷ []) now next
    → Finishes query grouping left all before now → Finishes query grouping rest all before next
finishes_on query grouping left rest all pair before now next step shows was =
    let row = row_if (shown_of query grouping pair) in
    record {
      rows =
          ap (λ l. l ++ shown_rows query grouping rest) shows.rows
          ∙ append_assoc now.rows.items (row ++ []) (shown_rows query grouping rest)
          ∙ ap (λ l. now.rows.items ++ (l ++ shown_rows query grouping rest)) (append-nil row)
          ∙ ap (λ l. now.rows.items ++ shown_rows query grouping l) (sym step)
          ∙ was.rows;
      fault = ap (λ least. least_fault query grouping least rest) shows.fault ∙ ap (least_fault query grouping now.fault) (sym step) ∙ was.fault;
    }
