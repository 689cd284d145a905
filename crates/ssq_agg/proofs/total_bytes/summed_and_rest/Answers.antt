use Rattle.std.proofs.Common.{◌≡◌, ◌++◌, sym, subst}
use Rattle.std.specs.Int.{w128}
use Rattle.std.proofs.lemmas.Int.{to_z-of_z}
use Rattle.ssq_meaning.specs.declared.total.Total.TheVariants as total
use Rattle.ssq_meaning.specs.Totals.{total_bytes}
use Rattle.ssq_agg.proofs.Spellings.{sum_found, sum_each, no_sum}
use Rattle.ssq_agg.proofs.total_bytes.summed_and_rest.Goals as goal

pub returns-in_err-parts-clause-each : goal.returns-in_err-parts-clause-each
returns-in_err-parts-clause-each c own rest fits is =
    absurd (no_sum c.args.bytes.now c.in_ok-count.behind.now c.in_ok-count.count c.in_ok-count.ensures.each c.in_err-parts.ensures.each own rest fits is)

pub returns-clause-found : goal.returns-clause-found
returns-clause-found c =
    subst (λ z. c.args.bytes.now ≡ total_bytes (total.Sum c.in_ok-count.count z) ++ c.in_ok-parts.parts.1.now) (sym (to_z-of_z w128 c.in_ok-parts.parts.0 c.in_ok-parts.ensures.fits))
    (sum_found c.args.bytes.now c.in_ok-count.behind.now c.in_ok-parts.parts.1.now c.in_ok-count.count c.in_ok-parts.parts.0 c.in_ok-count.ensures.found c.in_ok-parts.ensures.found)

pub returns-clause-each : goal.returns-clause-each
returns-clause-each c own rest fits is =
    subst (λ z. (total.Sum c.in_ok-count.count z ≡ own) × (c.in_ok-parts.parts.1.now ≡ rest)) (sym (to_z-of_z w128 c.in_ok-parts.parts.0 c.in_ok-parts.ensures.fits))
    (sum_each c.args.bytes.now c.in_ok-count.behind.now c.in_ok-parts.parts.1.now c.in_ok-count.count c.in_ok-parts.parts.0 c.in_ok-count.ensures.each c.in_ok-parts.ensures.each own rest fits is)
