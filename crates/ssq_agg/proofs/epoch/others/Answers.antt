use Rattle.std.proofs.Common.{rules}
use Rattle.std.proofs.lemmas.Fn.{filter_same}
use Rattle.ssq_agg.proofs.epoch.others.Goals as goal

pub returns : goal.returns
returns c = (c.in_ok-groups.groups.items, c.in_ok-groups.ensures, filter_same _ _ _ (λ x b f' k. search rules) _ _ c.retain.ensures.filtered)
