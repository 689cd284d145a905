use Rattle.ssq_terms.proofs.Bringing.{are_brought}
use Rattle.ssq_terms.proofs.Continuing.{PartitionLaws, continue}
use Rattle.ssq_terms.proofs.partition.partitions_continue.Given.{Over}
use Rattle.ssq_terms.proofs.partition.partitions_continue.Goals as goal

laws : (g : Over) (c : goal.After-few_rows_are_steady g) → PartitionLaws
laws g c = record {
  fit_accepted = c.fed_rows_are_fit.ensures.accepted;
  fit_on_time = c.fed_rows_are_fit.ensures.on_time;
  fit_bucket = c.fed_rows_are_fit.ensures.bucket;
  few_accepted = c.fed_rows_are_few.ensures.accepted;
  few_on_time = c.fed_rows_are_few.ensures.on_time;
  few_bucket = c.fed_rows_are_few.ensures.bucket;
  follows = c.epochs_of_groups_follow.ensures.follows;
  joins = c.epochs_of_groups_follow.ensures.joins;
  grouped_accepted = c.groups_are_fed_by_their_keys.ensures.accepted;
  grouped_on_time = c.groups_are_fed_by_their_keys.ensures.on_time;
  repeats_follow = c.epochs_without_repeats_follow.ensures;
  keyed_accepted = c.repeats_are_fed_by_their_keys.ensures.accepted;
  keyed_on_time = c.repeats_are_fed_by_their_keys.ensures.on_time;
  joins_follow = c.epochs_of_joins_follow.ensures;
  joined_accepted = c.rows_are_fed_to_joins.ensures.accepted;
  joined_on_time = c.rows_are_fed_to_joins.ensures.on_time;
  wide_accepted = c.joined_rows_are_wide.ensures.accepted;
  wide_on_time = c.joined_rows_are_wide.ensures.on_time;
  apart = c.joined_rows_are_kept_apart.ensures.rows;
  apart_bucket = c.joined_rows_are_kept_apart.ensures.bucket;
  apart_parts = c.joined_rows_are_kept_apart.ensures.parts;
  steady = c.few_rows_are_steady.ensures;
}

pub returns-clause-given : goal.returns-clause-given
returns-clause-given g c = continue (laws g c)

pub returns-clause-brought : goal.returns-clause-brought
returns-clause-brought g c = are_brought (laws g c) g.S.Stage.tells g.S.Stage.written g.S.Stage.sealed g.S.Stage.faults
