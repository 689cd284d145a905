use Rattle.std.proofs.Common.{◌≡◌, ◌++◌, ◌∷◌, [], None, ap, ◌∙◌}
use Rattle.ssq_value.specs.Key.{keys_of}
use Rattle.ssq_agg.proofs.Saying.{short_more}
use Rattle.ssq_agg.proofs.changed.remove_group.Goals as goal

pub returns-clause-said : goal.returns-clause-said
returns-clause-said c =
    let key : c.in_ok-key.key ≡ keys_of c.args.group.now.key = c.in_ok-key.ensures.bytes ∙ ap keys_of c.as_slice.ensures in
    c.in_ok-push.ensures.items ∙ ap (λ key. c.args.entries.now.items ++ (key, None) ∷ []) key

pub returns-clause-short : goal.returns-clause-short
returns-clause-short c = short_more (c.in_ok-key.key, None) c.args.entries.now.items c.push.new.self.items c.in_ok-push.ensures.items (c.in_ok-key.ensures.short, tt)
