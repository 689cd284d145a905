use Rattle.std.proofs.Common.{◌≡◌, ◌+◌, [], ◌∷◌, ◌++◌, map, refl, subst, ◌∙◌, ap, arith, rules}
use Rattle.std.proofs.lemmas.List.{length_push}
use Rattle.std.proofs.lemmas.Result.{err_from_is_err_and}
use Rattle.ssq_outside.specs.History.{files_now}
use Rattle.ssq_json.specs.RowText.{heads_of}
use Rattle.ssq_sink.specs.Fault.{IfDamaged, IsBad}
use Rattle.ssq_sink.specs.Table.{IsSinkOf}
use Rattle.ssq_sink.proofs.Passes.{none_first, first_more, first_bad, risen}
use Rattle.ssq_sink.proofs.reading.first_files.Goals as goal

pub loop-epoch-init : goal.loop-epoch-init
loop-epoch-init g c = (λ tells. refl, omega arith, ([], refl, c.new-kept.ensures, λ tells. none_first c.args.bound.now (files_now (g.D.Disk.history c.args.disk.now))))

pub loop-epoch-preserved : goal.loop-epoch-preserved
loop-epoch-preserved g c =
    let query = c.args.bound.now in
    let before = c.loop-epoch.invariant.2 in
    let taken = c.in_ok-take_sink.ensures.taken before.0 before.2 in (
      λ tells. c.take_sink.ensures.same tells ∙ c.loop-epoch.invariant.0 tells,
      omega (arith, c.loop-epoch.invariant.1, c.take_sink.ensures.counted),
      (
        before.0 ++ taken.0 ∷ [],
        length_push before.0 taken.0 ∙ ap (λ n. n + 1) before.1,
        taken.1,
        λ tells.
            first_more query (files_now (g.D.Disk.history c.args.disk.now)) before.0 taken.0 c.loop-epoch.epoch before.1
            (subst (λ h. IsSinkOf query (files_now h) c.loop-epoch.epoch taken.0) (c.loop-epoch.invariant.0 tells) (taken.2 tells)) (before.3 tells),
      ),
    )

pub take_sink-requires : goal.take_sink-requires
take_sink-requires g c =
    let columns = c.in_ok-columns.ensures in
    let outputs = c.as_slice.ensures in
    (columns.heads ∙ ap (λ own. heads_of (map (λ output. output.name) own)) outputs, columns.kinds ∙ ap (map (λ output. output.kind)) outputs)

pub into_text-requires : goal.into_text-requires
into_text-requires g c = (c.loop-epoch.invariant.2.0, c.loop-epoch.invariant.2.2)

pub returns-clause-read : goal.returns-clause-read
returns-clause-read g c = λ tells.
    let kept = c.loop-epoch.invariant.2 in
    let end : c.loop-epoch.epoch ≡ c.args.count = search rules in
    record { epochs = kept.0; all = kept.1 ∙ end; each = kept.3 tells; is = c.in_ok-into_text.ensures kept.0 kept.2 }

pub returns-in_err-take_sink-clause-bad : goal.returns-in_err-take_sink-clause-bad
returns-in_err-take_sink-clause-bad g c = λ tells.
    let p = err_from_is_err_and c.from_residual-in_err-take_sink.result c.from_residual-in_err-take_sink.ensures.1 in
    let query = c.args.bound.now in
    let before = c.loop-epoch.invariant.2 in
    rw (p.1, p.2) (first_bad query (files_now (g.D.Disk.history c.args.disk.now)) c.loop-epoch.epoch c.args.count c.in_err-take_sink.field-0.0 before.0 c.loop-epoch-test.true before.1 (before.3 tells)
    (subst (λ h. IfDamaged (IsBad query (files_now h) c.loop-epoch.epoch) c.in_err-take_sink.field-0.0) (c.loop-epoch.invariant.0 tells) (c.in_err-take_sink.ensures.bad tells)))

pub returns-in_err-take_sink-clause-same : goal.returns-in_err-take_sink-clause-same
returns-in_err-take_sink-clause-same g c = λ tells. c.take_sink.ensures.same tells ∙ c.loop-epoch.invariant.0 tells

pub returns-in_err-take_sink-clause-counted : goal.returns-in_err-take_sink-clause-counted
returns-in_err-take_sink-clause-counted g c = omega (arith, c.loop-epoch.invariant.1, c.take_sink.ensures.counted)

pub returns-in_err-take_sink-clause-cause : goal.returns-in_err-take_sink-clause-cause
returns-in_err-take_sink-clause-cause g c =
    let p = err_from_is_err_and c.from_residual-in_err-take_sink.result c.from_residual-in_err-take_sink.ensures.1 in
    rw (p.1, p.2) (risen _ _ _ _ c.loop-epoch.invariant.1 c.in_err-take_sink.ensures.cause)
