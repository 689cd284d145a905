use Rattle.std.proofs.Common.{sym}
use Rattle.ssq_modes.proofs.Refusals.{first_1, first_2, first_3, first_4, first_5, first_6, first_7}
use Rattle.ssq_modes.proofs.table.check.Goals as goal

pub returns-then-complete_without_groups-clause-refused : goal.returns-then-complete_without_groups-clause-refused
returns-then-complete_without_groups-clause-refused c = first_1 c.args.bound.now (sym c.if-append_without_time.ensures) (sym c.if-complete_without_groups.ensures)

pub returns-then-join_in_update-clause-refused : goal.returns-then-join_in_update-clause-refused
returns-then-join_in_update-clause-refused c = first_2 c.args.bound.now (sym c.if-append_without_time.ensures) (sym c.if-complete_without_groups.ensures) (sym c.if-join_in_update.ensures)

pub returns-then-outer_without_bound-clause-refused : goal.returns-then-outer_without_bound-clause-refused
returns-then-outer_without_bound-clause-refused c = first_3 c.args.bound.now (sym c.if-append_without_time.ensures) (sym c.if-complete_without_groups.ensures) (sym c.if-join_in_update.ensures) (sym c.if-outer_without_bound.ensures)

pub returns-then-bound_without_watermark-clause-refused : goal.returns-then-bound_without_watermark-clause-refused
returns-then-bound_without_watermark-clause-refused c = first_4 c.args.bound.now (sym c.if-append_without_time.ensures) (sym c.if-complete_without_groups.ensures) (sym c.if-join_in_update.ensures) (sym c.if-outer_without_bound.ensures) (sym c.if-bound_without_watermark.ensures)

pub returns-then-sorted_elsewhere-clause-refused : goal.returns-then-sorted_elsewhere-clause-refused
returns-then-sorted_elsewhere-clause-refused c = first_5 c.args.bound.now (sym c.if-append_without_time.ensures) (sym c.if-complete_without_groups.ensures) (sym c.if-join_in_update.ensures) (sym c.if-outer_without_bound.ensures) (sym c.if-bound_without_watermark.ensures) (sym c.if-sorted_elsewhere.ensures)

pub returns-then-having_in_update-clause-refused : goal.returns-then-having_in_update-clause-refused
returns-then-having_in_update-clause-refused c = first_6 c.args.bound.now (sym c.if-append_without_time.ensures) (sym c.if-complete_without_groups.ensures) (sym c.if-join_in_update.ensures) (sym c.if-outer_without_bound.ensures) (sym c.if-bound_without_watermark.ensures) (sym c.if-sorted_elsewhere.ensures) (sym c.if-having_in_update.ensures)

pub returns-then-hides_a_key-clause-refused : goal.returns-then-hides_a_key-clause-refused
returns-then-hides_a_key-clause-refused c = first_7 c.args.bound.now (sym c.if-append_without_time.ensures) (sym c.if-complete_without_groups.ensures) (sym c.if-join_in_update.ensures) (sym c.if-outer_without_bound.ensures) (sym c.if-bound_without_watermark.ensures) (sym c.if-sorted_elsewhere.ensures) (sym c.if-having_in_update.ensures) (sym c.if-hides_a_key.ensures)
