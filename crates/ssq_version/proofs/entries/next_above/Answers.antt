use Rattle.std.proofs.Common.{List, ℕ, option_copied, true≢false, subst, sym, ◌∙◌}
use Rattle.ssq_version.specs.Text.{IsAbove}
use Rattle.ssq_version.proofs.entries.next_above.Goals as goal

pub returns-in_err-entry-clause-each : goal.returns-in_err-entry-clause-each
returns-in_err-entry-clause-each c key value rest spelled above is = absurd (c.in_err-entry.ensures.each key value rest spelled is)

pub returns-then-is_above-clause-each : goal.returns-then-is_above-clause-each
returns-then-is_above-clause-each c key value rest spelled above is = c.in_ok-entry.ensures.each key value rest spelled is

pub returns-else-is_above-clause-each : goal.returns-else-is_above-clause-each
returns-else-is_above-clause-each c key value rest spelled above is =
    let A : List ℕ → Type 0 = IsAbove (option_copied c.args.last) in
    let same = c.in_ok-entry.ensures.each key value rest spelled is in
    absurd (true≢false (sym (c.is_above.ensures.each (subst A (sym same.0) above)) ∙ c.if-is_above.false))
