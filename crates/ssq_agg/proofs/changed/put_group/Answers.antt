use Rattle.std.proofs.Common.{◌≡◌, ◌++◌, ◌∷◌, [], Some, ap, ◌∙◌}
use Rattle.ssq_value.specs.Key.{keys_of}
use Rattle.ssq_meaning.specs.Totals.{totals_bytes}
use Rattle.ssq_agg.proofs.Saying.{short_more}
use Rattle.ssq_agg.proofs.changed.put_group.Goals as goal

pub returns-clause-said : goal.returns-clause-said
returns-clause-said c =
    let key : c.in_ok-key.key ≡ keys_of c.args.key.now = c.in_ok-key.ensures.bytes ∙ ap keys_of c.values.ensures in
    let value : c.in_ok-value.value ≡ totals_bytes c.args.totals.now = c.in_ok-value.ensures.bytes ∙ c.from_vec.ensures ∙ c.in_ok-bytes_of.ensures ∙ ap totals_bytes c.as_slice.ensures in
    c.in_ok-push.ensures.items ∙ (λ i. c.args.entries.now.items ++ (key i, Some (value i)) ∷ [])

pub returns-clause-short : goal.returns-clause-short
returns-clause-short c =
    short_more (c.in_ok-key.key, Some c.in_ok-value.value) c.args.entries.now.items c.push.new.self.items c.in_ok-push.ensures.items (c.in_ok-key.ensures.short, c.in_ok-value.ensures.short)
