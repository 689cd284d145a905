use Rattle.std.proofs.Common.{List, ap₂, sym, subst, ◌∙◌}
use Rattle.std.proofs.lemmas.Result.{err_from_is_err_and}
use Rattle.ssq_outside.specs.declared.name.Name.TheVariants as name
use Rattle.ssq_version.specs.declared.entry.Entry.{Entry}
use Rattle.ssq_version.specs.State.{IsChange, laid, layered}
use Rattle.ssq_version.specs.Text.{shown}
use Rattle.ssq_version.proofs.Laid.{laid_kept}
use Rattle.ssq_store.specs.Loaded.{files_in, DeltaRefuses, IsTold}
use Rattle.ssq_store.proofs.Layers.{layers_next}
use Rattle.ssq_store.proofs.Making.{refuses_delta}
use Rattle.ssq_store.proofs.listed.follow_in.Goals as goal

pub returns-in_err-change-clause-damaged : goal.returns-in_err-change-clause-damaged
returns-in_err-change-clause-damaged c none makes =
    let p = err_from_is_err_and c.from_residual.result c.from_residual.ensures.1 in
    let why = c.in_err-change.field-0.0 in
    let refused = subst (λ (es : List Entry). DeltaRefuses (files_in c.args.files.now (name.Delta c.args.partition c.args.version)) c.args.partition c.args.version (layered (shown c.args.older.now) (shown es)) why) c.as_slice.ensures.value c.in_err-change.ensures.damaged in
    rw (p.1, p.2) (refuses_delta (files_in c.args.files.now) c.args.partition c.args.version (layered (shown c.args.older.now) (shown c.args.newer.now.items)) why none makes refused)

pub returns-clause-made : goal.returns-clause-made
returns-clause-made c none makes =
    let told = subst (λ (es : List Entry). IsTold (files_in c.args.files.now (name.Delta c.args.partition c.args.version)) c.args.partition c.args.version (layered (shown c.args.older.now) (shown es)) (shown c.in_ok-change.change.items)) c.as_slice.ensures.value c.in_ok-change.ensures.found in
    layers_next (files_in c.args.files.now) c.args.partition c.args.version (shown c.args.older.now) (shown c.args.newer.now.items) (shown c.in_ok-change.change.items) _ c.requires.older c.requires.newer none makes
    told (c.in_ok-newer.ensures ∙ ap₂ (λ (es fs : List Entry). laid (shown es) (shown fs)) c.as_slice-3.ensures.value c.as_slice-2.ensures.value)

pub returns-clause-kept : goal.returns-clause-kept
returns-clause-kept c = subst IsChange (sym (c.in_ok-newer.ensures ∙ ap₂ (λ (es fs : List Entry). laid (shown es) (shown fs)) c.as_slice-3.ensures.value c.as_slice-2.ensures.value))
    (laid_kept (shown c.in_ok-change.change.items) (shown c.args.newer.now.items) c.in_ok-change.ensures.found.kept c.requires.newer)
