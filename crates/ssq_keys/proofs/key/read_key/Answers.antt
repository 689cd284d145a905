use Rattle.std.proofs.Common.{◌≡◌, ◌++◌, ◌∷◌, [], ◌-◌, ◌+◌, arith, sym, ap, subst, length, All}
use Rattle.std.proofs.lemmas.List.{length-append}
use Rattle.std.proofs.lemmas.List.Elements.{All-nil, All-push}
use Rattle.ssq_value.specs.Key.{key_of}
use Rattle.ssq_shape.specs.Fit.{IsFit}
use Rattle.ssq_keys.proofs.ReadLemmas.{begins, goes_on, nothing_in_front, nothing_read, one_more_read, some_has, some_and_has, none_has}
use Rattle.ssq_keys.proofs.key.read_key.Goals as goal

pub loop-init : goal.loop-init
loop-init c =
    let none = c.in_ok-values.ensures.items in (
      nothing_read c.args.bytes.now c.in_ok-values.values.items none,
      subst (All IsFit) (sym none) (All-nil IsFit),
      ap length none,
      begins c.args.bytes.now c.args.count c.in_ok-values.values.items (c.args.count - 0) (omega arith) none,
    )

pub loop-preserved : goal.loop-preserved
loop-preserved c =
    let push = c.in_ok-push.ensures.items in
    let front = some_has (λ parts. c.loop.rest.now ≡ key_of parts.0 ++ parts.1.now) _ _ c.in-Some.is c.in_ok-value.ensures.found in
    let fit = some_has (λ parts. IsFit parts.0) _ _ c.in-Some.is c.in_ok-value.ensures.fit in (
      one_more_read c.args.bytes.now c.loop.values.items c.push.new.self.items c.loop.rest.now c.in-Some.behind.now c.in-Some.value push front c.loop.invariant.0,
      subst (All IsFit) (sym push) (All-push IsFit c.loop.values.items c.in-Some.value c.loop.invariant.1 fit),
      (let len = ap length push in omega (arith, length-append c.loop.values.items (c.in-Some.value ∷ []), c.loop.invariant.2)),
      goes_on c.args.bytes.now c.args.count c.loop.values.items c.push.new.self.items c.loop.rest.now c.in-Some.behind.now c.in-Some.value (c.args.count - c.loop.counter) (c.args.count - (c.loop.counter + 1))
          (omega (arith, c.loop-test.true)) push
          (λ v r fits is. some_and_has (λ parts. (parts.0 ≡ v) × (parts.1.now ≡ r)) _ _ c.in-Some.is (c.in_ok-value.ensures.each v r fits is)) c.loop.invariant.3,
    )

pub returns-in_default-clause-each : goal.returns-in_default-clause-each
returns-in_default-clause-each c key fit len is =
    absurd (nothing_in_front c.args.bytes.now c.args.count c.loop.values.items c.loop.rest.now (c.args.count - c.loop.counter) (omega (arith, c.loop-test.true))
    (λ v r fits is. none_has (λ parts. (parts.0 ≡ v) × (parts.1.now ≡ r)) _ c.in_default.not-Some (c.in_ok-value.ensures.each v r fits is)) c.loop.invariant.3 key fit len is)
