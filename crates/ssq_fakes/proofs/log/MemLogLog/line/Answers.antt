use Rattle.std.proofs.Common.{◌≡◌, ◌∙◌, Some, slice_get, sym}
use Rattle.std.proofs.lemmas.Option.{slice_get_within}
use Rattle.std.proofs.lemmas.Result.{on_ok_weaker}
use Rattle.ssq_fakes.specs.Logs.{log_lines}
use Rattle.ssq_fakes.proofs.log.MemLogLog.line.Goals as goal

pub returns-in-Some-clause-found : goal.returns-in-Some-clause-found
returns-in-Some-clause-found c =
    let there : slice_get (log_lines c.args.self.now) c.args.at ≡ Some c.in-Some.line.now = rw (← c.deref-lines.ensures) (sym c.in-Some.ensures.found) in
    on_ok_weaker c.refill.result (λ is. slice_get_within _ _ _ there) c.refill.ensures.ok

pub returns-in-Some-clause-bytes : goal.returns-in-Some-clause-bytes
returns-in-Some-clause-bytes c =
    on_ok_weaker c.refill.result (λ is. (c.in-Some.line.now, rw (← c.deref-lines.ensures) (sym c.in-Some.ensures.found), is ∙ c.front.ensures.bytes)) c.refill.ensures.ok

pub returns-in-Some-clause-cap : goal.returns-in-Some-clause-cap
returns-in-Some-clause-cap c = on_ok_weaker c.refill.result (λ is. rw is c.front.ensures.cap) c.refill.ensures.ok
