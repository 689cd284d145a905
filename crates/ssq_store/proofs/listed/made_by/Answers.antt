use Rattle.std.proofs.Common.{◌≡◌, ◌+◌, List, None, suc, arith, ap₂, subst, sym, ◌∙◌}
use Rattle.std.proofs.lemmas.Result.{err_from_is_err_and}
use Rattle.ssq_outside.specs.declared.name.Name.TheVariants as name
use Rattle.ssq_version.specs.declared.entry.Entry.{Entry}
use Rattle.ssq_version.specs.State.{IsChange, laid, layered}
use Rattle.ssq_version.specs.Text.{shown}
use Rattle.ssq_version.proofs.Laid.{laid_kept}
use Rattle.ssq_store.specs.Loaded.{files_in, Makes}
use Rattle.ssq_store.proofs.Layers.{nothing_kept}
use Rattle.ssq_store.proofs.Making.{refuses_up}
use Rattle.ssq_store.proofs.listed.made_by.Goals as goal

pub loop-version-init : goal.loop-version-init
loop-version-init c = record {
  makes = subst (λ (es : List Entry). Makes (files_in c.args.files.now) c.args.partition c.in_ok-from.from (layered (shown c.in_ok-from.older.items) (shown es))) (sym c.new-newer.ensures.items) c.in_ok-from.ensures.made;
  kept = nothing_kept c.new-newer.result.items c.new-newer.ensures.items;
}

pub loop-version-preserved : goal.loop-version-preserved
loop-version-preserved c =
    let next : suc c.loop-version.version ≡ c.loop-version.version + 1 = omega arith in
    let absent : files_in c.args.files.now (name.Snapshot c.args.partition c.loop-version.version) ≡ None = c.in_ok-from.ensures.newest c.loop-version.version (omega arith) (omega (arith, c.loop-version-test.true)) in
    let makes = subst (λ (es : List Entry). Makes (files_in c.args.files.now) c.args.partition c.loop-version.version (layered (shown es) (shown c.loop-version.newer.items))) (sym c.as_slice.ensures.value) c.loop-version.invariant.makes in
    let made = subst (λ (es : List Entry). Makes (files_in c.args.files.now) c.args.partition (suc c.loop-version.version) (layered (shown es) (shown c.follow_in.new.newer.items))) c.as_slice.ensures.value (c.in_ok-follow_in.ensures.made absent makes) in
    record {
      makes = subst (λ n. Makes (files_in c.args.files.now) c.args.partition n (layered (shown c.in_ok-from.older.items) (shown c.follow_in.new.newer.items))) next made;
      kept = c.in_ok-follow_in.ensures.kept;
    }

pub returns-in_err-follow_in-clause-damaged : goal.returns-in_err-follow_in-clause-damaged
returns-in_err-follow_in-clause-damaged c =
    let p = err_from_is_err_and c.from_residual-in_err-follow_in.result c.from_residual-in_err-follow_in.ensures.1 in
    let absent : files_in c.args.files.now (name.Snapshot c.args.partition c.loop-version.version) ≡ None = c.in_ok-from.ensures.newest c.loop-version.version (omega arith) (omega (arith, c.loop-version-test.true)) in
    let makes = subst (λ (es : List Entry). Makes (files_in c.args.files.now) c.args.partition c.loop-version.version (layered (shown es) (shown c.loop-version.newer.items))) (sym c.as_slice.ensures.value) c.loop-version.invariant.makes in
    rw (p.1, p.2)
    (refuses_up (files_in c.args.files.now) c.args.partition (suc c.loop-version.version) c.args.versions c.in_err-follow_in.field-0.0 (omega (arith, c.loop-version-test.true))
    (λ v low high. c.in_ok-from.ensures.newest v (omega (arith, low)) high) (c.in_err-follow_in.ensures.damaged absent makes))

pub returns-clause-kept : goal.returns-clause-kept
returns-clause-kept c = subst IsChange (sym (c.in_ok-merge.ensures ∙ ap₂ (λ (es fs : List Entry). laid (shown es) (shown fs)) c.as_slice-3.ensures.value c.as_slice-2.ensures.value)) (laid_kept (shown c.loop-version.newer.items) (shown c.in_ok-from.older.items) c.loop-version.invariant.kept c.in_ok-from.ensures.kept)
