use Rattle.std.proofs.Common.{◌≡◌, ◌<◌, [], ◌∷◌, ◌++◌, length, sym, subst, ◌∙◌, arith}
use Rattle.std.specs.Prelude.{IsSomeAnd, IfSome}
use Rattle.ssq_json.specs.Stored.{AreStoredIn, line_of}
use Rattle.ssq_gen.specs.Counts.{AreCountsOf}
use Rattle.ssq_gen.proofs.Reading.{all_counted, all_read, none_counted, none_found, none_read, one_counted, one_read}
use Rattle.ssq_gen.proofs.counts.count_lines.Goals as goal

pub loop-rest-init : goal.loop-rest-init
loop-rest-init c = (
  λ names of rows are. none_counted names c.args.kinds.now c.args.bytes.now _ rows c.none-counts.ensures.none are,
  λ names of. none_read names c.args.kinds.now c.args.bytes.now,
  c.none-counts.ensures.within,
  omega (arith, c.none-counts.ensures.rows),
)

pub loop-rest-preserved : goal.loop-rest-preserved
loop-rest-preserved c = (
  λ names of rows are. one_counted names c.args.kinds.now rows c.loop-rest.rest.now c.in-Some.after.now c.in-Some.row c.loop-rest.counts c.with_row-counts.result (sym c.is_empty.ensures ∙ c.loop-rest-test.true)
      (λ one rest stored is. subst (λ o. IsSomeAnd o (λ r. (r.0 ≡ one) × (r.1.now ≡ rest))) c.in-Some.is (c.in_ok-row.ensures.each names of one rest stored is))
      (λ own so. subst (λ one. AreCountsOf (own ++ one ∷ []) c.with_row-counts.result) c.as_slice.ensures (c.with_row-counts.ensures.counted own so)) (c.loop-rest.invariant.0 names of rows are),
  λ names of.
      let found = subst (λ o. IfSome o (λ r. (c.loop-rest.rest.now ≡ line_of names r.0 ++ r.1.now) × AreStoredIn c.args.kinds.now r.0)) c.in-Some.is (c.in_ok-row.ensures.found names of) in
      one_read names c.args.kinds.now c.args.bytes.now c.loop-rest.rest.now c.in-Some.after.now c.in-Some.row found.0 found.1 (c.loop-rest.invariant.1 names of),
  c.with_row-counts.ensures.within,
  let shorter = subst (λ o. IfSome o (λ r. length r.1.now < length c.loop-rest.rest.now)) c.in-Some.is c.in_ok-row.ensures.shorter in
      let so_far = c.loop-rest.invariant.3 in
      omega (arith, c.with_row-counts.ensures.rows, shorter, so_far),
)

pub returns-clause-each : goal.returns-clause-each
returns-clause-each c = λ names of rows are. all_counted names c.args.kinds.now rows c.loop-rest.rest.now c.loop-rest.counts (sym c.is_empty.ensures ∙ c.loop-rest-test.false) (c.loop-rest.invariant.0 names of rows are)

pub returns-clause-rows : goal.returns-clause-rows
returns-clause-rows c = λ names of. all_read names c.args.kinds.now c.args.bytes.now c.loop-rest.rest.now (sym c.is_empty.ensures ∙ c.loop-rest-test.false) (c.loop-rest.invariant.1 names of)

pub returns-in-None-clause-cause : goal.returns-in-None-clause-cause
returns-in-None-clause-cause c = λ names of own.
    none_found names c.args.kinds.now own.rows c.loop-rest.rest.now c.loop-rest.counts (sym c.is_empty.ensures ∙ c.loop-rest-test.true)
    (λ one rest stored is. subst (λ o. IsSomeAnd o (λ r. (r.0 ≡ one) × (r.1.now ≡ rest))) c.in-None.is (c.in_ok-row.ensures.each names of one rest stored is)) (c.loop-rest.invariant.0 names of own.rows own.are)
