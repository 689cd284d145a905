use Rattle.std.proofs.Common.{◌≡◌, ◌++◌, sym, subst, rules, ap, ◌∙◌}
use Rattle.std.specs.Prelude.{OnOk, FitsSigned}
use Rattle.std.specs.Int.{w64, w128, to_be_bytes}
use Rattle.std.proofs.lemmas.Int.{to_z-of_z}
use Rattle.ssq_field.specs.Field.{twos_complement}
use Rattle.ssq_meaning.specs.Totals.{total_bytes}
use Rattle.ssq_agg.proofs.Spellings.{sum_bytes}
use Rattle.ssq_agg.proofs.total_bytes.put_total.Goals as goal

pub returns-in-Sum : goal.returns-in-Sum
returns-in-Sum c =
    let fits : FitsSigned w128 c.in-Sum.sum = search rules in
    subst (λ own. OnOk c.put_counted.result (c.put_counted.new.out.items ≡ c.args.out.now.items ++ total_bytes own)) (sym c.in-Sum.is)
    (subst (λ bytes. OnOk c.put_counted.result (c.put_counted.new.out.items ≡ c.args.out.now.items ++ bytes))
    (ap (λ z. to_be_bytes w64 c.in-Sum.count ++ twos_complement z) (to_z-of_z w128 c.in-Sum.sum fits) ∙ sum_bytes c.in-Sum.count c.in-Sum.sum) c.put_counted.ensures)
