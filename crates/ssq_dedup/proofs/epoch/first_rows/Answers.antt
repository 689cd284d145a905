use Rattle.std.proofs.Common.{◌<◌, ◌≡◌, [], List, arith, ap, length, sym, subst}
use Rattle.std.specs.Prelude.{All}
use Rattle.std.specs.HashSet.{contains}
use Rattle.std.specs.List.{list_any}
use Rattle.std.proofs.lemmas.List.{take_all}
use Rattle.std.proofs.lemmas.List.Elements.{All-get_or, All-nil}
use Rattle.ssq_time.specs.Time.{IsStampTime}
use Rattle.ssq_value.specs.Kind.{IfTime}
use Rattle.ssq_meaning.specs.FedRows.{FedRow}
use Rattle.ssq_meaning.specs.Dedup.{values_in}
use Rattle.ssq_meaning.specs.Fit.{IsFitRow}
use Rattle.ssq_meaning.specs.Group.{is_same}
use Rattle.ssq_dedup.specs.Firsts.{SaysFirsts, first_among}
use Rattle.ssq_dedup.proofs.Taking.{begins, keys_more, printed_more, row_more}
use Rattle.ssq_dedup.proofs.epoch.first_rows.Goals as goal

pub loop-row-init : goal.loop-row-init
loop-row-init c = record {
  keys = λ key. ap (list_any (is_same key)) c.in_ok-keys.ensures.empty;
  firsts = λ count is_held holds keyed. begins count is_held c.args.draft.now c.new-shown.result.items c.new-shown.ensures.items;
  printable = subst (All (All (IfTime IsStampTime))) (sym c.new-shown.ensures.items) (All-nil (All (IfTime IsStampTime)));
}

pub take_row-requires : goal.take_row-requires
take_row-requires c =
    let inside : c.loop-row.row-index < length c.args.rows.now = omega (arith, c.loop-row-test.true) in
    subst IsFitRow (sym c.row-item.is) (All-get_or IsFitRow c.args.rows.now c.loop-row.row-index c.row-item.result inside c.requires)

pub loop-row-preserved : goal.loop-row-preserved
loop-row-preserved c =
    let rows = c.args.rows.now in
    let at = c.loop-row.row-index in
    let row = c.row-item.result in
    let inside : at < length rows = omega (arith, c.loop-row-test.true) in
    record {
      keys = keys_more rows at row inside c.row-item.is (λ key. contains is_same c.loop-row.keys key) (λ key. contains is_same c.take_row.new.keys key) c.in_ok-take_row.ensures.keys c.loop-row.invariant.keys;
      firsts = λ count is_held holds keyed.
          row_more c.keys_are_apart.ensures.whatever_follows count is_held c.args.state.now holds rows keyed at row inside c.row-item.is (contains is_same c.loop-row.keys row.key)
          (c.loop-row.invariant.keys row.key) c.args.draft.now c.loop-row.draft c.take_row.new.draft c.loop-row.shown.items c.take_row.new.shown.items c.in_ok-take_row.ensures.taken
          (c.loop-row.invariant.firsts count is_held holds keyed);
      printable =
          printed_more c.args.state.now row (contains is_same c.loop-row.keys row.key) c.loop-row.draft c.take_row.new.draft c.loop-row.shown.items c.take_row.new.shown.items
          c.in_ok-take_row.ensures.taken (subst IsFitRow (sym c.row-item.is) (All-get_or IsFitRow rows at row inside c.requires)) c.loop-row.invariant.printable;
    }

pub returns-clause-says : goal.returns-clause-says
returns-clause-says c = λ count is_held holds keyed.
    subst (λ (rows : List FedRow). SaysFirsts count is_held rows c.args.draft.now c.loop-row.draft) (take_all c.loop-row.row-index c.args.rows.now (omega (arith, c.loop-row-test.false)))
    (c.loop-row.invariant.firsts count is_held holds keyed).0

pub returns-clause-rows : goal.returns-clause-rows
returns-clause-rows c = λ count is_held holds keyed.
    subst (λ (rows : List FedRow). c.loop-row.shown.items ≡ values_in (first_among is_held [] rows)) (take_all c.loop-row.row-index c.args.rows.now (omega (arith, c.loop-row-test.false)))
    (c.loop-row.invariant.firsts count is_held holds keyed).1

pub returns-clause-printable : goal.returns-clause-printable
returns-clause-printable c = c.loop-row.invariant.printable
