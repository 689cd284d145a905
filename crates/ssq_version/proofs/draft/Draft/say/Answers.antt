use Rattle.std.proofs.Common.{subst}
use Rattle.ssq_version.specs.State.{Change, IsToldAt, last_first}
use Rattle.ssq_version.proofs.Drafted.{told_next}
use Rattle.ssq_version.proofs.draft.Draft.say.Goals as goal

pub returns-clause-told : goal.returns-clause-told
returns-clause-told c =
    subst (λ (before : Change). IsToldAt c.args.key c.args.value before (last_first c.push.new.self.items)) c.self.view_is
    (told_next c.self.inside.0.items c.push.new.self.items c.args.key c.args.value c.in_ok-push.ensures.items)
