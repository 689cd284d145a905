use Rattle.std.proofs.Common.{◌+◌, ◌<◌, arith, ap, subst, sym, ◌∙◌, refl, le_refl}
use Rattle.std.proofs.lemmas.Result.{err_from_is_err_and}
use Rattle.ssq_outside.specs.History.{History, files_now}
use Rattle.ssq_open.specs.Epochs.{AreCommitted}
use Rattle.ssq_open.specs.Refused.{CommitRefuses}
use Rattle.ssq_open.proofs.InOrder.{no_times}
use Rattle.ssq_open.proofs.Planning.{commit_refused, none_committed}
use Rattle.ssq_open.proofs.commits.commits_to.Goals as goal

pub returns-in_err-advance-clause-refused : goal.returns-in_err-advance-clause-refused
returns-in_err-advance-clause-refused g c = λ tells.
    let p = err_from_is_err_and c.from_residual-in_err-advance.result c.from_residual-in_err-advance.ensures.1 in
    let less : c.loop-epoch.epoch < c.args.count = omega arith in
    let R : History → Type 0 = λ h. CommitRefuses c.args.streams.now (files_now h) c.loop-epoch.epoch c.in_err-advance.field-0.0 in
    rw (p.1, p.2) (commit_refused _ _ _ _ c.in_err-advance.field-0.0 less (c.loop-epoch.invariant.committed tells).good (subst R (c.loop-epoch.invariant.same tells) (c.in_err-advance.ensures.refused tells)))

pub loop-epoch-init : goal.loop-epoch-init
loop-epoch-init g c = record {
  committed = λ tells. rw (c.in_ok-push.ensures.ok, c.new-marks.ensures, c.new.ensures) (none_committed c.args.streams.now _);
  count = rw (c.in_ok-push.ensures.ok, c.new-marks.ensures) refl;
  in_order = rw (c.new.ensures) (no_times c.args.streams.now);
  same = λ tells. refl;
  counted = le_refl _;
}

pub loop-epoch-preserved : goal.loop-epoch-preserved
loop-epoch-preserved g c = record {
  committed = λ tells.
      let M : History → Type 0 = λ h. AreCommitted c.args.streams.now (files_now h) c.loop-epoch.epoch c.loop-epoch.found.marks c.loop-epoch.found.seen in
      let N : History → Type 0 = λ h. AreCommitted c.args.streams.now (files_now h) (c.loop-epoch.epoch + 1) c.advance.new.found.marks c.advance.new.found.seen in
      let same = c.loop-epoch.invariant.same tells in
      subst N same (c.in_ok-advance.ensures.committed tells (subst M (sym same) (c.loop-epoch.invariant.committed tells)));
  in_order = c.in_ok-advance.ensures.in_order;
  count = c.in_ok-advance.ensures.count ∙ ap (λ n. n + 1) c.loop-epoch.invariant.count;
  same = λ tells. c.advance.ensures.same tells ∙ c.loop-epoch.invariant.same tells;
  counted = omega (arith, c.loop-epoch.invariant.counted, c.advance.ensures.counted);
}
