use Rattle.std.proofs.Common.{◌≡◌, ◌++◌, drop}
use Rattle.ssq_fakes.specs.Plans.{on_stage}
use Rattle.ssq_fakes.proofs.plan.FailAt.on_stage.Given as goal

abbrev pub invariant-loop-call : goal.invariant-loop-call
invariant-loop-call l = on_stage l.stage l.calls ≡ l.found.items ++ on_stage l.stage (drop l.call-index l.calls)
