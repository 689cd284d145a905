use Rattle.std.proofs.Common.{List, ℕ, ◌++◌, ◌∙◌, ap, arith}
use Rattle.std.proofs.lemmas.List.{take_all}
use Rattle.std.proofs.lemmas.Result.{err_from_is_err_and}
use Rattle.ssq_value.specs.declared.value.Value.{Value}
use Rattle.ssq_value.specs.Key.{key_of, keys_of}
use Rattle.ssq_value.proofs.Fronts.{still_in_front}
use Rattle.ssq_value.proofs.Growing.{key_more}
use Rattle.ssq_value.proofs.keys.put_values.Goals as goal

pub returns-in_err-put_value : goal.returns-in_err-put_value
returns-in_err-put_value c =
    let failed = err_from_is_err_and c.from_residual.result c.from_residual.ensures.1 in
    rw failed.1 (record { ok = tt; err = still_in_front _ _ _ _ c.loop-value.invariant c.in_err-put_value.ensures.err })

pub loop-value-preserved : goal.loop-value-preserved
loop-value-preserved c =
    c.in_ok-put_value.ensures.ok ∙ ap (λ (bytes : List ℕ). bytes ++ key_of c.value-item.result) c.loop-value.invariant
    ∙ key_more c.args.out.now.items c.args.values.now c.loop-value.value-index c.value-item.result (omega (arith, c.loop-value-test.true)) c.value-item.is

pub returns : goal.returns
returns c = record {
  ok = c.loop-value.invariant ∙ ap (λ (values : List Value). c.args.out.now.items ++ keys_of values) (take_all c.loop-value.value-index c.args.values.now c.loop-value-test.false);
  err = tt;
}
