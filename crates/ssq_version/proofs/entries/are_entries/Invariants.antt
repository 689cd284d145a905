-- The bytes are such entries exactly where what is left of them is what is left of these.
use Rattle.std.proofs.Common.{◌-◌, None, option_copied}
use Rattle.ssq_version.specs.Text.{IsListing}
use Rattle.ssq_version.proofs.entries.are_entries.Given as goal

abbrev pub invariant-loop : goal.invariant-loop
invariant-loop l = record {
  only : IsListing l.form (option_copied l.last) (l.count - l.counter) l.rest → IsListing l.form None l.count l.text;
  each : IsListing l.form None l.count l.text → IsListing l.form (option_copied l.last) (l.count - l.counter) l.rest;
}
