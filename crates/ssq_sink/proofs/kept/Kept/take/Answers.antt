use Rattle.std.proofs.Common.{◌≡◌, ◌++◌, sym, subst, ◌∙◌}
use Rattle.std.specs.Prelude.{IfSome, IsSomeAnd}
use Rattle.ssq_json.specs.Stored.{AreRows, AreStoredIn, line_of}
use Rattle.ssq_shape.specs.Plain.{output_names}
use Rattle.ssq_sink.proofs.Rereading.{none_read, one_read, none_stands, all_done, columns_same, is_none, is_some_left, times_stored}
use Rattle.ssq_sink.proofs.kept.Kept.take.Goals as goal

pub loop-rest-init : goal.loop-rest-init
loop-rest-init c = (none_read c.args.columns.now.heads c.args.columns.now.kinds.items c.args.bytes.now, λ epochs so. c.begin.ensures c.args.bound.now epochs so)

pub take_line-requires : goal.take_line-requires
take_line-requires c = columns_same c.args.bound.now.outputs c.args.columns.now.heads c.as_slice.result.now c.requires.0 (c.as_slice.ensures.value ∙ c.requires.1)

pub put-requires-clause-timed : goal.put-requires-clause-timed
put-requires-clause-timed c = times_stored c.as_slice.result.now c.in-Some.row (subst (λ o. IfSome o (λ r. AreStoredIn c.as_slice.result.now r.0)) c.in-Some.is c.in_ok-row.ensures.stored)

pub loop-rest-preserved : goal.loop-rest-preserved
loop-rest-preserved c =
    let left = c.loop-rest.rest.now in
    let row = c.in-Some.row in
    let own = c.as_slice.ensures.value in
    let before = c.loop-rest.invariant.0 in (
      one_read c.args.columns.now.heads c.args.columns.now.kinds.items c.args.bytes.now left c.in-Some.after.now row
          (λ names of.
          let found = subst (λ o. IfSome o (λ r. (left ≡ line_of names r.0 ++ r.1.now) × AreStoredIn c.as_slice.result.now r.0)) c.in-Some.is (c.in_ok-row.ensures.found names of) in
          (found.0, subst (λ kinds. AreStoredIn kinds row) own found.1))
          (λ names of one rest stored is.
          subst (λ o. IsSomeAnd o (λ r. (r.0 ≡ one) × (r.1.now ≡ rest))) c.in-Some.is (c.in_ok-row.ensures.each names of one rest (subst (λ kinds. AreStoredIn kinds one) (sym own) stored) is))
          before,
      λ epochs so. c.in_ok-put-in-Some.ensures epochs before.own (c.loop-rest.invariant.1 epochs so),
    )

pub returns-clause-taken : goal.returns-clause-taken
returns-clause-taken c = λ epochs so yes.
    let names = output_names c.args.bound.now in
    let read = c.loop-rest.invariant.0 in
    let are = all_done names c.args.columns.now.kinds.items c.args.bytes.now c.loop-rest.rest.now read.own (is_none c.loop-rest.rest.now (sym c.is_empty.ensures ∙ c.loop-rest-test.false)) (read.done names c.requires.0) in
    (read.own, subst (λ kinds. AreRows names kinds c.args.bytes.now read.own) c.requires.1 are, c.loop-rest.invariant.1 epochs so)

pub returns-in-None-clause-none : goal.returns-in-None-clause-none
returns-in-None-clause-none c = λ no.
    let names = output_names c.args.bound.now in
    let heads = c.requires.0 in
    let would = none_stands names c.args.columns.now.kinds.items c.args.bytes.now c.loop-rest.rest.now (is_some_left c.loop-rest.rest.now (sym c.is_empty.ensures ∙ c.loop-rest-test.true))
    (λ one rest stored is.
    subst (λ o. IsSomeAnd o (λ r. (r.0 ≡ one) × (r.1.now ≡ rest))) c.in-None.is (c.in_ok-row.ensures.each names heads one rest (subst (λ kinds. AreStoredIn kinds one) (sym c.as_slice.ensures.value) stored) is))
    (c.loop-rest.invariant.0.would names heads) in
    λ rows are. would rows (subst (λ kinds. AreRows names kinds c.args.bytes.now rows) (sym c.requires.1) are)
