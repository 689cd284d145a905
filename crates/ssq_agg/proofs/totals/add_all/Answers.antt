use Rattle.std.proofs.Common.{All, ap, length, subst, sym, ◌∙◌}
use Rattle.std.proofs.lemmas.List.{with_items_is}
use Rattle.std.proofs.lemmas.List.Elements.{All-from_recursion, recursion_from_All}
use Rattle.std.proofs.lemmas.Result.{on_ok_weaker}
use Rattle.ssq_agg.specs.Readable.{IsFitTotal}
use Rattle.ssq_agg.proofs.totals.add_all.Goals as goal

pub returns-clause-fit : goal.returns-clause-fit
returns-clause-fit c = λ was fits.
    on_ok_weaker c.add_row.result
    (λ all. subst (All IsFitTotal)
    (sym (with_items_is c.args.totals.now c.add_row.new.totals (c.add_row.auto.totals ∙ ap length c.as_mut_slice.ensures.value ∙ sym c.args.totals.now.ok.0)))
    (All-from_recursion IsFitTotal c.add_row.new.totals all))
    (c.add_row.ensures.fit (recursion_from_All IsFitTotal c.as_mut_slice.result.now (subst (All IsFitTotal) (sym c.as_mut_slice.ensures.value) was)) fits)
