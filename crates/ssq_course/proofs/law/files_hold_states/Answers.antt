use Rattle.ssq_course.proofs.States.{RowLaws, are_of_states, can_be_held}
use Rattle.ssq_course.proofs.law.files_hold_states.Goals as goal

row_laws : (c : goal.After-kept_keys_ascend) → RowLaws
row_laws c = record {
  fit = c.fed_rows_are_fit.ensures.accepted;
  own_fit = c.fed_rows_are_fit.ensures.bucket;
  few = c.fed_rows_are_few.ensures.accepted;
  own_few = c.fed_rows_are_few.ensures.bucket;
  lengths = c.epochs_of_groups_follow.ensures.lengths;
  repeats_lengths = c.repeats_are_fed_by_their_keys.ensures.accepted;
  joined = c.rows_are_fed_to_joins.ensures.accepted;
  joined_wide = λ query joining is. (c.joined_rows_are_wide.ensures.accepted query joining is).wide;
  ascend = c.kept_keys_ascend.ensures;
}

pub returns-clause-files : goal.returns-clause-files
returns-clause-files c = are_of_states (row_laws c)

pub returns-clause-held : goal.returns-clause-held
returns-clause-held c = can_be_held (row_laws c)
