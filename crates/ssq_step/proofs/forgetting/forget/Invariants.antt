use Rattle.std.proofs.Common.{take}
use Rattle.ssq_step.specs.Forgetting.{IsGone}
use Rattle.ssq_step.specs.Indexing.{seen}
use Rattle.ssq_step.proofs.forgetting.forget.Given as goal

abbrev pub invariant-loop-key : goal.invariant-loop-key
invariant-loop-key l = IsGone (seen (take l.key-index l.keys)) l.fn.draft l.draft
