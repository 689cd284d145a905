use Rattle.std.proofs.Common.{◌∙◌}
use Rattle.std.proofs.lemmas.Result.{IfOk-weaker}
use Rattle.ssq_step.specs.Indexing.{seen}
use Rattle.ssq_join.proofs.Saying.{says_bytes}
use Rattle.ssq_join.proofs.changed.changed.Goals as goal

pub returns : goal.returns
returns c =
    IfOk-weaker c.into_change.result _ _ (λ change said key. said key ∙
    says_bytes c.args.state.now c.args.fresh.entries c.args.met.now.keys (seen c.args.over.now) c.new-draft.result c.put_fresh.new.draft c.put_flags.new.draft c.forget.new.draft
    c.new-draft.ensures c.in_ok-put_fresh.ensures c.in_ok-put_flags.ensures c.in_ok-forget.ensures key) c.into_change.ensures
