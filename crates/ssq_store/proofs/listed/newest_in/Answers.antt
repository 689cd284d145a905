use Rattle.std.proofs.Common.{◌≡◌, suc, ◌-◌, List, [], arith, ap, subst}
use Rattle.std.proofs.lemmas.Result.{err_from_is_err_and}
use Rattle.ssq_version.specs.declared.entry.Entry.{Entry}
use Rattle.ssq_version.specs.State.{layered}
use Rattle.ssq_version.specs.Text.{shown}
use Rattle.ssq_store.specs.Loaded.{files_in, Makes, Refuses}
use Rattle.ssq_store.proofs.Layers.{entries_kept, entries_make, nothing_kept}
use Rattle.ssq_store.proofs.Making.{refuses_snapshot, refuses_up, makes_nothing, if_some}
use Rattle.ssq_store.proofs.listed.newest_in.Goals as goal

pub returns-in_err-entries-clause-damaged : goal.returns-in_err-entries-clause-damaged
returns-in_err-entries-clause-damaged c =
    let next : suc (c.loop-left.left - 1) ≡ c.loop-left.left = omega (arith, c.loop-left-test.true) in
    let p = err_from_is_err_and c.from_residual.result c.from_residual.ensures.1 in
    let at = subst (λ n. Refuses (files_in c.args.files.now) c.args.partition n c.in_err-entries.field-0.0) next (refuses_snapshot (files_in c.args.files.now) c.args.partition (c.loop-left.left - 1) c.in_err-entries.field-0.0 c.in_err-entries.ensures.damaged) in
    rw (p.1, p.2) (refuses_up (files_in c.args.files.now) c.args.partition c.loop-left.left c.args.versions c.in_err-entries.field-0.0 c.loop-left.invariant.below c.loop-left.invariant.none at)

pub returns-in-Some-clause-made : goal.returns-in-Some-clause-made
returns-in-Some-clause-made c =
    let next : suc (c.loop-left.left - 1) ≡ c.loop-left.left = omega (arith, c.loop-left-test.true) in
    let of = if_some _ c.in_ok-entries.field-0 c.in-Some.entries c.in-Some.is c.in_ok-entries.ensures.found in
    subst (λ n. Makes (files_in c.args.files.now) c.args.partition n (layered (shown c.in-Some.entries.items) [])) next
    (entries_make (files_in c.args.files.now) c.args.partition (c.loop-left.left - 1) (shown c.in-Some.entries.items) of.0 of.1 of.2)

pub returns-in-Some-clause-kept : goal.returns-in-Some-clause-kept
returns-in-Some-clause-kept c =
    let of = if_some _ c.in_ok-entries.field-0 c.in-Some.entries c.in-Some.is c.in_ok-entries.ensures.found in
    entries_kept (shown c.in-Some.entries.items) of.0 of.1 of.2.kept

pub returns-clause-made : goal.returns-clause-made
returns-clause-made c =
    makes_nothing (files_in c.args.files.now) c.args.partition (layered (shown c.new.result.items) []) (ap (λ (es : List Entry). layered (shown es) []) c.new.ensures.items)

pub returns-clause-kept : goal.returns-clause-kept
returns-clause-kept c = nothing_kept c.new.result.items c.new.ensures.items
