use Rattle.std.proofs.Common.{◌<◌, List, arith, length, sym, subst}
use Rattle.std.proofs.lemmas.List.{take_all}
use Rattle.std.proofs.lemmas.List.Elements.{All-get_or, All-nil}
use Rattle.std.specs.Prelude.{All}
use Rattle.ssq_time.specs.Time.{IsStampTime}
use Rattle.ssq_value.specs.Kind.{IfTime}
use Rattle.ssq_meaning.specs.FedRows.{FedRow}
use Rattle.ssq_meaning.specs.Fit.{IsFitRow}
use Rattle.ssq_step.specs.Shown.{ArePrintable}
use Rattle.ssq_join.proofs.Standing.{AreTurned, none_fresh, none_taken, takes_more}
use Rattle.ssq_join.proofs.taking.take_rows.Goals as goal

pub loop-row-init : goal.loop-row-init
loop-row-init c = (
  (λ held was_met kept each apart. (
    none_taken c.args.bound.now c.args.joining.now held c.nothing_taken-taken.result c.nothing_taken-taken.ensures.rows c.nothing_taken-taken.ensures.fault c.nothing_taken-taken.ensures.met,
    none_fresh c.args.bound.now c.args.joining.now c.nothing_taken-taken.result.fresh.entries c.nothing_taken-taken.ensures.fresh,
  )),
  subst ArePrintable (sym c.nothing_taken-taken.ensures.rows) (All-nil (All (IfTime IsStampTime))),
)

pub take_next-requires-clause-row : goal.take_next-requires-clause-row
take_next-requires-clause-row c =
    let inside : c.loop-row.row-index < length c.args.rows.now = omega (arith, c.loop-row-test.true) in
    subst IsFitRow (sym c.row-item.is) (All-get_or IsFitRow c.args.rows.now c.loop-row.row-index c.row-item.result inside c.requires)

pub loop-row-preserved : goal.loop-row-preserved
loop-row-preserved c =
    let inside : c.loop-row.row-index < length c.args.rows.now = omega (arith, c.loop-row-test.true) in (
      takes_more c.args.bound.now c.args.joining.now c.args.state.now c.args.rows.now c.loop-row.row-index c.row-item.result inside c.row-item.is c.loop-row.taken c.take_next.new.taken c.in_ok-take_next.ensures.taken c.loop-row.invariant.0,
      c.in_ok-take_next.ensures.printable,
    )

pub returns-clause-taken : goal.returns-clause-taken
returns-clause-taken c = λ held was_met kept each apart.
    subst (λ (rows : List FedRow). AreTurned c.args.bound.now c.args.joining.now held rows c.loop-row.taken) (take_all c.loop-row.row-index c.args.rows.now (omega (arith, c.loop-row-test.false))) (c.loop-row.invariant.0 held was_met kept each apart)

pub returns-clause-printable : goal.returns-clause-printable
returns-clause-printable c = c.loop-row.invariant.1
