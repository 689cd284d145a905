-- With those that are left, the entries so far are all.
use Rattle.std.proofs.Common.{◌≡◌, length, option_copied}
use Rattle.std.specs.List.{AllByRecursion}
use Rattle.ssq_version.specs.declared.entry.Entry.{Entry}
use Rattle.ssq_version.specs.State.{Change}
use Rattle.ssq_version.specs.Text.{entries_text, IsSpelled}
use Rattle.ssq_version.proofs.Listing.{IsLeft}
use Rattle.ssq_version.proofs.entries.entries_in.Given as goal

abbrev pub invariant-loop-entry : goal.invariant-loop-entry
invariant-loop-entry l =
    (entries : Change) → AllByRecursion (IsSpelled l.form) entries → l.text ≡ entries_text l.form entries → IsLeft l.form (λ (e : Entry). (e.key.now, option_copied e.value)) entries l.made.items l.rest

abbrev pub decreases-loop-entry : goal.decreases-loop-entry
decreases-loop-entry l = length l.rest
