use Rattle.std.proofs.Common.{sym, ◌∙◌}
use Rattle.ssq_value.specs.declared.value.Value.TheVariants.{Null}
use Rattle.ssq_json.proofs.Lists.{grown_by_clones}
use Rattle.ssq_json.proofs.flat.nulls.Goals as goal

pub returns : goal.returns
returns c =
    let all = c.in_ok-resize.ensures.items in
    grown_by_clones Null c.args.count _ all.0 _ (c.reserve_exact.ensures.items ∙ c.clear.ensures.items) all.1 all.2 (sym c.resize.new.self.ok.0 ∙ c.in_ok-resize.ensures.len)
