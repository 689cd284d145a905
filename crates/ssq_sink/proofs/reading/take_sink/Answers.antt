use Rattle.std.proofs.Common.{Ok, Some, refl, sym, ap, subst, ◌∙◌}
use Rattle.ssq_outside.specs.History.{files_now}
use Rattle.ssq_json.specs.Stored.{AreRows}
use Rattle.ssq_shape.specs.Plain.{output_names}
use Rattle.ssq_sink.specs.Table.{output_kinds}
use Rattle.ssq_sink.proofs.Passes.{rows_read}
use Rattle.ssq_sink.proofs.reading.take_sink.Goals as goal

pub returns-then-branch-clause-taken : goal.returns-then-branch-clause-taken
returns-then-branch-clause-taken g c = λ epochs so.
    let query = c.args.bound.now in
    let taken = c.in_ok-take.ensures.taken epochs so (ap (λ b. Ok b) c.if-branch.true) in (
      taken.0,
      taken.2,
      λ tells. record { bytes = c.in_ok-bytes.bytes.items; there = c.in_ok-bytes.ensures.found tells; are = subst (λ bytes. AreRows (output_names query) (output_kinds query) bytes taken.0) c.as_slice.ensures.value taken.1 },
    )

pub returns-clause-bad : goal.returns-clause-bad
returns-clause-bad g c = λ tells. (
  refl,
  λ sink.
      c.in_ok-take.ensures.none c.if-branch.false sink.rows
      (rows_read c.args.bound.now (files_now (g.D.Disk.history c.args.disk.now)) c.args.epoch c.as_slice.result.now (c.in_ok-bytes.ensures.found tells ∙ ap (λ own. Some own) (sym c.as_slice.ensures.value)) sink),
)
