use Rattle.std.proofs.Common.{◌≡◌, IfOk, subst}
use Rattle.std.specs.Map.{values_of}
use Rattle.std.proofs.lemmas.Iterator.Adapters.{fact_from_collect}
use Rattle.std.proofs.lemmas.Iterator.Consumers.{YieldsList-from_rest}
use Rattle.std.proofs.lemmas.Result.{IfOk-at_ok}
use Rattle.ssq_sink.proofs.Keeping.{latest_text}
use Rattle.ssq_sink.proofs.latest.Latest.into_text.Goals as goal

pub returns : goal.returns
returns c = λ rows so.
    let entries = c.args.self.rows.entries in
    let made = fact_from_collect _ c.collect.result c.collect.ensures.ran (YieldsList-from_rest (values_of entries) c.into_values.ensures.rest) in
    let kept : c.in_ok-rows.rows.items ≡ values_of entries = (IfOk-at_ok _ c.in_ok-rows.was made).0 in
    subst (λ wanted. IfOk c.epoch_text.result (λ text. text ≡ wanted)) (latest_text c.args.bound.now rows entries c.in_ok-rows.rows.items kept so) c.epoch_text.ensures
