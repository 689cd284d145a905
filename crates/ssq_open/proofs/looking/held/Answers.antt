use Rattle.std.proofs.Common.{◌≡◌, ◌∙◌, List, subst, sym, ap}
use Rattle.std.proofs.lemmas.Result.{err_from_is_err_and}
use Rattle.ssq_outside.specs.declared.name.Name.{Name}
use Rattle.ssq_outside.specs.Files.{AreNames}
use Rattle.ssq_outside.specs.History.{History, files_now}
use Rattle.ssq_plans.specs.declared.part.PartEnd.{PartEnd}
use Rattle.ssq_open.specs.declared.streams.Watermarked.{Watermarked}
use Rattle.ssq_open.specs.Epochs.{IsProgress}
use Rattle.ssq_open.specs.Looking.{begins, query_of}
use Rattle.ssq_open.specs.Numbers.{AreEpochsInOrder}
use Rattle.ssq_open.specs.Refused.{ProgressRefuses}
use Rattle.ssq_open.proofs.Looks.{meta_denied, progress_denied}
use Rattle.ssq_open.proofs.looking.held.Goals as goal

pub returns-in_err-epochs-clause-denied : goal.returns-in_err-epochs-clause-denied
returns-in_err-epochs-clause-denied g c = λ tells are.
    let p = err_from_is_err_and c.from_residual-in_err-epochs.result c.from_residual-in_err-epochs.ensures.1 in
    let streams : List Watermarked = c.args.streams.now in
    let A : History → Type 0 = λ h. AreNames (files_now h) c.args.names in
    let N : List Name → Type 0 = λ names. AreNames (files_now (g.D.Disk.history c.kept_query.new.disk)) names in
    let R : History → Type 0 = λ h. ProgressRefuses streams (files_now h) c.as_slice-3.result.now c.in_err-epochs.field-0.0 in
    let F : List PartEnd → Type 0 = λ first. ProgressRefuses streams (files_now (g.D.Disk.history c.args.disk.now)) first c.in_err-epochs.field-0.0 in
    let S : List Watermarked → Type 0 = λ marked. ProgressRefuses marked (files_now (g.D.Disk.history c.args.disk.now)) (begins c.in_ok-meta.meta.parts) c.in_err-epochs.field-0.0 in
    let same = c.kept_query.ensures.same tells in
    let here = subst N (sym c.as_slice-2.ensures) (subst A (sym same) are) in
    let begin : c.as_slice-3.result.now ≡ begins c.in_ok-meta.meta.parts = c.as_slice-3.ensures ∙ c.in_ok-first.ensures ∙ ap begins c.as_slice.ensures in
    rw (p.1, p.2) (progress_denied (query_of c.args.bound.now) _ c.in_ok-meta.meta c.in_err-epochs.field-0.0 (c.in_ok-meta.ensures.kept tells) (rw c.len.ensures at c.in_ok-meta.ensures.ours)
    (subst S c.requires.marked (subst F begin (subst R same (c.in_err-epochs.ensures.refused tells here)))))

pub returns-in_err-meta-clause-denied : goal.returns-in_err-meta-clause-denied
returns-in_err-meta-clause-denied g c = λ tells are.
    let p = err_from_is_err_and c.from_residual.result c.from_residual.ensures.1 in
    rw (p.1, p.2) (meta_denied (query_of c.args.bound.now) _ c.in_err-meta.field-0.0 (rw c.len.ensures at (c.in_err-meta.ensures.refused tells)))

pub returns-clause-holds : goal.returns-clause-holds
returns-clause-holds g c = λ tells are.
    let found = c.in_ok-epochs.epochs in
    let streams : List Watermarked = c.args.streams.now in
    let A : History → Type 0 = λ h. AreNames (files_now h) c.args.names in
    let N : List Name → Type 0 = λ names. AreNames (files_now (g.D.Disk.history c.kept_query.new.disk)) names in
    let R : History → Type 0 = λ h. IsProgress streams (files_now h) c.as_slice-3.result.now found.plans found.committed found.seen in
    let F : List PartEnd → Type 0 = λ first. IsProgress streams (files_now (g.D.Disk.history c.args.disk.now)) first found.plans found.committed found.seen in
    let S : List Watermarked → Type 0 = λ marked. IsProgress marked (files_now (g.D.Disk.history c.args.disk.now)) (begins c.in_ok-meta.meta.parts) found.plans found.committed found.seen in
    let same = c.kept_query.ensures.same tells in
    let here = subst N (sym c.as_slice-2.ensures) (subst A (sym same) are) in
    let begin : c.as_slice-3.result.now ≡ begins c.in_ok-meta.meta.parts = c.as_slice-3.ensures ∙ c.in_ok-first.ensures ∙ ap begins c.as_slice.ensures in
    record {
      found = record {
        record_is = c.in_ok-meta.ensures.kept tells;
        ours = rw c.len.ensures at c.in_ok-meta.ensures.ours;
        progress = subst S c.requires.marked (subst F begin (subst R same (c.in_ok-epochs.ensures.progress tells here)));
      };
      listed = (c.args.names, are, c.files_of_state.ensures);
    }

pub returns-clause-numbers : goal.returns-clause-numbers
returns-clause-numbers g c =
    let F : List PartEnd → Type 0 = λ first. AreEpochsInOrder c.args.streams.now first c.in_ok-epochs.epochs in
    let S : List Watermarked → Type 0 = λ marked. AreEpochsInOrder marked (begins c.in_ok-meta.meta.parts) c.in_ok-epochs.epochs in
    let begin : c.as_slice-3.result.now ≡ begins c.in_ok-meta.meta.parts = c.as_slice-3.ensures ∙ c.in_ok-first.ensures ∙ ap begins c.as_slice.ensures in
    let order = subst S c.requires.marked (subst F begin c.in_ok-epochs.ensures.in_order) in
    record {
      before = order.before;
      near = order.near;
      few_plans = order.plans.few;
      follow = order.plans.follow;
      marks = order.plans.marks;
      seen = order.times.lines;
      years = order.times.years;
    }
