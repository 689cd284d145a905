use Rattle.std.specs.Prelude.{◌==◌}
use Rattle.ssq_value.specs.Key.{keys_of}
use Rattle.ssq_route.specs.Place.{place_of}
use Rattle.ssq_meaning.specs.FedRows.{FedRow}
use Rattle.ssq_meaning.proofs.KeptRows.{apart_filter}
use Rattle.ssq_meaning.proofs.Placing.{accepted_apart, parts_apart}
use Rattle.ssq_meaning.proofs.join.joined_rows_are_kept_apart.Goals as goal

pub returns-clause-rows : goal.returns-clause-rows
returns-clause-rows c = accepted_apart c.keys_are_apart.ensures.whatever_follows c.rows_fit_their_schema.ensures c.values_stay_fit.ensures c.windows_hold_their_time.ensures.windows

pub returns-clause-bucket : goal.returns-clause-bucket
returns-clause-bucket c = λ rows partitions p apart. apart_filter (λ (row : FedRow). place_of (keys_of row.key) partitions == p) rows apart

pub returns-clause-parts : goal.returns-clause-parts
returns-clause-parts c = parts_apart
