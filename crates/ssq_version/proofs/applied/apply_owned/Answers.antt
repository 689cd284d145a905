use Rattle.std.proofs.Common.{◌∙◌, sym}
use Rattle.ssq_version.proofs.Filling.{is_nothing}
use Rattle.ssq_version.proofs.applied.apply_owned.Goals as goal

pub fill-requires : goal.fill-requires
fill-requires c = is_nothing c.args.state.now (sym c.is_empty.ensures.empty ∙ c.if-is_empty.true)
