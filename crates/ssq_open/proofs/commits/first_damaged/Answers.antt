use Rattle.std.proofs.Common.{inl, length, sym}
use Rattle.ssq_open.specs.Refused.{MarkRefuses}
use Rattle.ssq_open.specs.declared.fault.OpenFault.TheVariants.{Damaged}
use Rattle.ssq_open.proofs.Others.{commit_passed, no_commit, damaged_some, damaged_none}
use Rattle.ssq_open.proofs.commits.first_damaged.Goals as goal

pub returns-in-Some-clause-some : goal.returns-in-Some-clause-some
returns-in-Some-clause-some c = λ streams files are spelled each. inl (commit_passed files _ _ _ are (sym c.in-Some.ensures))

pub returns-in-None-clause-none : goal.returns-in-None-clause-none
returns-in-None-clause-none c = λ streams files are spelled each.
    damaged_none files (length c.args.plans.now) c.first_mismarked.result _ (no_commit files _ _ are (sym c.in-None.ensures)) (c.first_mismarked.ensures.none streams files spelled each)

pub returns-in-None-clause-some : goal.returns-in-None-clause-some
returns-in-None-clause-some c = λ streams files are spelled each.
    damaged_some files (length c.args.plans.now) c.first_mismarked.result (λ at. MarkRefuses streams files (length c.args.plans.now) (Damaged at)) (no_commit files _ _ are (sym c.in-None.ensures))
    (c.first_mismarked.ensures.some streams files spelled each)
