use Rattle.std.proofs.Common.{◌∙◌, refl, subst}
use Rattle.ssq_outside.specs.Files.{Files}
use Rattle.ssq_core.specs.Settled.{IsSettledAs}
use Rattle.ssq_open.proofs.Beginning.{only_meta-published, either_same, read_leaves}
use Rattle.ssq_open.proofs.begin.settle_meta.Goals as goal

pub returns-in_err-bytes-clause-any_moment : goal.returns-in_err-bytes-clause-any_moment
returns-in_err-bytes-clause-any_moment g c = λ tells files empty settled. read_leaves _ _ files _ refl settled

pub returns-in_err-settle-clause-any_moment : goal.returns-in_err-settle-clause-any_moment
returns-in_err-settle-clause-any_moment g c = λ tells files empty settled.
    either_same _ _ _ _ _ (c.settle.ensures.any_moment tells files settled) (only_meta-published files _ _ _ empty (c.as_slice.ensures ∙ c.in_ok-bytes.ensures) refl)

pub returns-clause-settled : goal.returns-clause-settled
returns-clause-settled g c = λ tells files empty settled.
    let P : Files → Type 0 = IsSettledAs (g.D.Disk.history c.settle.new.disk) in
    subst P (only_meta-published files _ _ _ empty (c.as_slice.ensures ∙ c.in_ok-bytes.ensures) refl) (c.in_ok-settle.ensures.done tells files settled)

pub returns-clause-any_moment : goal.returns-clause-any_moment
returns-clause-any_moment g c = λ tells files empty settled.
    either_same _ _ _ _ _ (c.settle.ensures.any_moment tells files settled) (only_meta-published files _ _ _ empty (c.as_slice.ensures ∙ c.in_ok-bytes.ensures) refl)
