use Rattle.std.proofs.Common.{◌<◌, ◌∙◌, length, arith, ap, sym, subst}
use Rattle.std.specs.HashMap.{get as found}
use Rattle.std.proofs.lemmas.List.Elements.{All-from_recursion, All-get_or}
use Rattle.std.proofs.lemmas.List.{take_all}
use Rattle.ssq_meaning.specs.Fit.{IsFitRow}
use Rattle.ssq_meaning.specs.Group.{is_same, members}
use Rattle.ssq_agg.specs.Groups.{touched}
use Rattle.ssq_agg.specs.Readable.{IsKey}
use Rattle.ssq_agg.proofs.Taking.{steady, touched_on}
use Rattle.ssq_agg.proofs.groups.touched.Goals as goal

pub loop-row-preserved : goal.loop-row-preserved
loop-row-preserved c = (
  (λ own holds keys are.
      let aggregates = c.args.grouping.now.aggregates in
      let rows = c.args.rows.now in
      let at = c.loop-row.row-index in
      let row = c.row-item.result in
      let inside : at < length rows = omega (arith, c.loop-row-test.true) in
      let is_key = subst (λ row. IsKey c.args.grouping.now row.key) (sym c.row-item.is)
      (All-get_or (λ row. IsKey c.args.grouping.now row.key) rows at row inside (All-from_recursion (λ row. IsKey c.args.grouping.now row.key) rows keys)) in
      let was = c.loop-row.invariant.0 own holds keys are in
      touched_on aggregates own rows at row inside c.row-item.is (λ key. found is_same c.loop-row.groups key) (λ key. found is_same c.take_row.new.groups key) was
      (c.in_ok-take_row.ensures.taken own holds is_key (steady aggregates own rows at row inside c.row-item.is (λ key. found is_same c.loop-row.groups key) (λ key. found is_same c.take_row.new.groups key) are was))),
  c.in_ok-take_row.ensures.fit c.loop-row.invariant.1,
)

pub take_row-requires : goal.take_row-requires
take_row-requires c =
    let inside : c.loop-row.row-index < length c.args.rows.now = omega (arith, c.loop-row-test.true) in
    subst IsFitRow (sym c.row-item.is) (All-get_or IsFitRow c.args.rows.now c.loop-row.row-index c.row-item.result inside c.requires)

pub returns-clause-groups : goal.returns-clause-groups
returns-clause-groups c = λ own holds keys are key.
    c.loop-row.invariant.0 own holds keys are key ∙ ap (λ rows. touched c.args.grouping.now.aggregates (own key) (members rows key)) (take_all c.loop-row.row-index c.args.rows.now (omega (arith, c.loop-row-test.false)))

pub returns-clause-fit : goal.returns-clause-fit
returns-clause-fit c = c.loop-row.invariant.1
