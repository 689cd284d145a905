use Rattle.std.proofs.Common.{◌+◌, ◌≤◌, arith, subst, sym, ◌∙◌}
use Rattle.std.proofs.lemmas.Result.{err_from_is_err_and}
use Rattle.ssq_outside.specs.History.{History, files_now}
use Rattle.ssq_open.specs.Stores.{AreLoaded, StoresRefuse}
use Rattle.ssq_open.proofs.Storing.{refused_more}
use Rattle.ssq_open.proofs.stores.load_stores.Goals as goal

pub returns-in_err-load_next-clause-refused : goal.returns-in_err-load_next-clause-refused
returns-in_err-load_next-clause-refused g c = λ tells.
    let p = err_from_is_err_and c.from_residual.result c.from_residual.ensures.1 in
    let less : c.loop-partition.partition + 1 ≤ c.args.keeping = omega arith in
    let M : History → Type 0 = λ h. AreLoaded (files_now h) c.loop-partition.partition c.args.committed c.loop-partition.stores in
    let R : History → Type 0 = λ h. StoresRefuse (files_now h) (c.loop-partition.partition + 1) c.args.committed c.in_err-load_next.field-0.0 in
    let same = c.loop-partition.invariant.same tells in
    rw (p.1, p.2) (refused_more _ _ _ _ c.in_err-load_next.field-0.0 less (subst R same (c.in_err-load_next.ensures.refused tells (subst M (sym same) (c.loop-partition.invariant.loaded tells)))))

pub loop-partition-preserved : goal.loop-partition-preserved
loop-partition-preserved g c = record {
  numbers = c.in_ok-load_next.ensures.numbers c.loop-partition.invariant.numbers;
  loaded = λ tells.
      let M : History → Type 0 = λ h. AreLoaded (files_now h) c.loop-partition.partition c.args.committed c.loop-partition.stores in
      let N : History → Type 0 = λ h. AreLoaded (files_now h) (c.loop-partition.partition + 1) c.args.committed c.load_next.new.stores in
      let same = c.loop-partition.invariant.same tells in
      subst N same (c.in_ok-load_next.ensures.loaded tells (subst M (sym same) (c.loop-partition.invariant.loaded tells)));
  same = λ tells. c.load_next.ensures.same tells ∙ c.loop-partition.invariant.same tells;
  counted = omega (arith, c.loop-partition.invariant.counted, c.load_next.ensures.counted);
}
