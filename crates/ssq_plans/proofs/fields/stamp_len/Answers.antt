-- The text of a time has 20 bytes where `Z` is the last of them, and otherwise 27.
use Rattle.ssq_plans.proofs.Times.{with_z, without_z, too_short}
use Rattle.ssq_plans.proofs.fields.stamp_len.Goals.{else-text-gt19-via-then-text-gt19+else-text-eq90, else-text-gt19-via-else-text-gt19}
use Rattle.ssq_plans.proofs.fields.stamp_len.Goals as goal

pub returns-then-text-eq90 : goal.returns-then-text-eq90
returns-then-text-eq90 c t rest is = with_z t c.args.text.now rest is c.if-text-eq90.true

pub returns-else-text-gt19 : goal.returns-else-text-gt19
returns-else-text-gt19 c t rest is =
    elim c.else-text-gt19.branch [
      | else-text-gt19-via-then-text-gt19+else-text-eq90 w ↦ without_z t c.args.text.now rest is w.if-text-eq90.false
      | else-text-gt19-via-else-text-gt19 w ↦ absurd (too_short t c.args.text.now rest is w.if-text-gt19.false)
    ]
