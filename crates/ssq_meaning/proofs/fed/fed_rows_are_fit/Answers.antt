use Rattle.std.specs.Prelude.{◌==◌}
use Rattle.std.proofs.lemmas.List.Elements.{All-filter}
use Rattle.ssq_value.specs.Key.{keys_of}
use Rattle.ssq_route.specs.Place.{place_of}
use Rattle.ssq_meaning.specs.FedRows.{FedRow}
use Rattle.ssq_meaning.specs.Fit.{IsFitRow}
use Rattle.ssq_meaning.proofs.FitRows.{part_fit, fed_fit, on_time_fit, accepted_fit}
use Rattle.ssq_meaning.proofs.fed.fed_rows_are_fit.Goals as goal

pub returns-clause-part : goal.returns-clause-part
returns-clause-part c = part_fit c.rows_fit_their_schema.ensures c.values_stay_fit.ensures c.windows_hold_their_time.ensures.windows

pub returns-clause-fed : goal.returns-clause-fed
returns-clause-fed c = fed_fit c.rows_fit_their_schema.ensures c.values_stay_fit.ensures c.windows_hold_their_time.ensures.windows

pub returns-clause-on_time : goal.returns-clause-on_time
returns-clause-on_time c = on_time_fit c.rows_fit_their_schema.ensures c.values_stay_fit.ensures c.windows_hold_their_time.ensures.windows

pub returns-clause-accepted : goal.returns-clause-accepted
returns-clause-accepted c = accepted_fit c.rows_fit_their_schema.ensures c.values_stay_fit.ensures c.windows_hold_their_time.ensures.windows

pub returns-clause-bucket : goal.returns-clause-bucket
returns-clause-bucket c = λ rows partitions p all. All-filter (λ (row : FedRow). place_of (keys_of row.key) partitions == p) IsFitRow rows all
